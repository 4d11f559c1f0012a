pub mod Changes
pub mod Lookups
pub mod Totals
