pub mod Finality
pub mod MedianTime
pub mod Relative
pub mod laws
