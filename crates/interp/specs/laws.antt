-- What holds of the definitions.
pub mod Answers
pub mod Runs
pub mod SignatureChecks
pub mod OpcodeSteps
pub mod Acceptance
pub mod KnownVerdicts
pub mod InputVerdict
pub mod FailureNames
