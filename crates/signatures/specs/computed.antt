-- Definitions as tests that compute.
pub mod Shape
