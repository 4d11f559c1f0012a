-- What private functions and invariants alone cite.
pub mod Ahead
pub mod MessageFront
pub mod Flat
