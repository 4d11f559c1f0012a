-- What private functions and invariants alone cite.
pub mod Leaves
pub mod Tops
pub mod Nodes
