pub mod Checkpoints
pub mod Confirmations
pub mod Histories
pub mod laws
