-- What clauses of private functions alone speak of.
pub mod Replay
