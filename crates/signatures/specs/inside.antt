-- What private functions and invariants alone cite.
pub mod Parts
