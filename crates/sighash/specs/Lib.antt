pub mod Kind
pub mod Digest
pub mod WitnessDigest
pub mod Midstates
pub mod inside
