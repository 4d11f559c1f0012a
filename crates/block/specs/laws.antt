-- What holds of the definitions.
pub mod Reader
pub mod Equality
pub mod BlockBytes
pub mod Files
