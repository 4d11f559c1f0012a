-- What private clauses and invariants alone cite.
pub mod Brought
pub mod EarlyScripts
pub mod CoinOrder
pub mod Kept
pub mod Knowledge
pub mod LastPlaces
pub mod Learnt
pub mod PublishedState
pub mod Refusal
pub mod Seats
pub mod Writes
