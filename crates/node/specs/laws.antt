-- Theorems on what a node is opened with, and on what its seats are answered.
pub mod OpenSeats
pub mod Runs
pub mod Verdicts
