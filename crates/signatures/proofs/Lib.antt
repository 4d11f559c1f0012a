pub mod Once
pub mod Parts
pub mod NewVerdict
pub mod Search
pub mod Words
pub mod Tables
pub mod Found
