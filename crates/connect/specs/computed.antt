-- The same as functions, with a worked example.
pub mod Scripts
pub mod Examples
