-- Worked examples, computed from the definitions.
pub mod Cases
pub mod Play
pub mod Regtest
pub mod Rows
pub mod Toy
