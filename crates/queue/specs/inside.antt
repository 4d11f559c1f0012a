-- What private functions and invariants alone cite.
pub mod ClaimedPlaces
pub mod KnownAnswers
pub mod Walk
