-- What clauses of private functions and invariants alone speak of.
pub mod PackedCoins
