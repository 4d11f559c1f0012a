pub mod Parts
pub mod Given
pub mod ReadLines
pub mod Sets
pub mod Spelled
pub mod Texts
