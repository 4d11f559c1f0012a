-- Theorems on what is published.
pub mod Exact
