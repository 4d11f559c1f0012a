-- What private functions and invariants alone cite.
pub mod Room
pub mod Fault
