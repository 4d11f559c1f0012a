-- What private functions alone cite.
pub mod Order
