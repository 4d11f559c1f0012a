pub mod Calls
pub mod OpenFault
pub mod Pass
pub mod Runs
pub mod Told
pub mod inside
pub mod laws
