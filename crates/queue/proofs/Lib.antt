pub mod Flags
pub mod JobAnswers
pub mod ClaimedPlaces
pub mod ListOfJobs
pub mod Pairs
pub mod Walks
