-- What holds of the definitions.
pub mod Reader
pub mod Parts
pub mod WitnessReader
pub mod WitnessSpelling
pub mod Check
pub mod Equality
pub mod First
