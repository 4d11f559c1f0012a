pub mod Jobs
pub mod Early
pub mod Ahead
pub mod FirstAnswer
pub mod inside
pub mod laws
