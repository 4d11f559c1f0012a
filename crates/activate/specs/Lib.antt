pub mod CoreState
pub mod Lookups
pub mod Steps
pub mod Wants
pub mod inside
pub mod laws
