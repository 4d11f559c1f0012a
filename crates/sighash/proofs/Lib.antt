pub mod Beginnings
pub mod Inputs
pub mod Lists
pub mod Outputs
pub mod Pieces
pub mod Splices
