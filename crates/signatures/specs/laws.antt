-- What holds of the definitions.
pub mod Shape
pub mod Members
pub mod Order
pub mod Growth
pub mod Agreement
