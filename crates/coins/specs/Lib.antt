pub mod Changes
pub mod Coins
pub mod Entries
pub mod Lent
pub mod Next
pub mod inside
pub mod laws
