-- What private functions and invariants alone cite.
pub mod JobContext
pub mod Outcomes
pub mod Multisig
pub mod RunningContext
