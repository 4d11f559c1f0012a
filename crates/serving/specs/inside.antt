-- What private clauses alone cite.
pub mod Front
pub mod Given
