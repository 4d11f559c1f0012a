pub mod Crash
pub mod KeptSteps
pub mod Lines
pub mod Log
pub mod inside
