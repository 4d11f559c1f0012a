-- What private functions and invariants alone cite.
pub mod Changes
pub mod Entries
pub mod Next
pub mod Shards
