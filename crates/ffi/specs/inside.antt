-- What private functions and invariants alone cite.
pub mod Storage
pub mod Parts
pub mod Known
pub mod Signatures
pub mod Agreement
pub mod Utxo
pub mod Wide
