pub mod PushOnly
pub mod Shape
pub mod Sums
pub mod Checks
pub mod Parts
pub mod NumberBytes
