pub mod AddedEntry
pub mod Beginnings
pub mod Turns
