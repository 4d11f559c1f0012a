-- What holds of the definitions.
pub mod Reader
pub mod Counts
pub mod Loop
pub mod Extension
