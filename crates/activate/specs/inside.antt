-- What clauses of private functions and invariants alone speak of.
pub mod ActiveBranch
pub mod Ascents
pub mod Disconnection
pub mod Headers
pub mod Kept
pub mod Heights
pub mod Paths
pub mod Preparation
