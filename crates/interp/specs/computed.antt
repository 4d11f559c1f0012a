-- What the code computes with: runs by what is known of signatures, and what its names of opcodes stand for.
pub mod Conditions
pub mod Groups
pub mod OpcodeRow
pub mod Step
pub mod NamedFailures
pub mod InputVerdict
pub mod Examples
pub mod Signatures
