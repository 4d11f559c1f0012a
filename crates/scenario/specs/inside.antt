-- What private clauses and invariants alone cite.
pub mod Coinbase
pub mod DefinedBlocks
