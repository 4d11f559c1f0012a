-- What holds of the definitions.
pub mod Inquiry
pub mod Table
pub mod Questions
pub mod Scripts
pub mod Rounds
pub mod Jobs
pub mod Blocks
pub mod Commands
