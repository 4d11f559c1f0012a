-- What private functions and invariants alone cite.
pub mod Turns
pub mod ScriptLists
pub mod AppliedTransactions
pub mod Early
