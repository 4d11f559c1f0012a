-- What private functions and invariants alone cite.
pub mod Body
pub mod Marks
pub mod Room
pub mod ScriptBytes
