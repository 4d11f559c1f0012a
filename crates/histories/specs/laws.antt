-- What holds of the definitions.
pub mod Coins
pub mod Confirmations
pub mod Heights
pub mod Reorganisations
pub mod Replies
pub mod Tables
pub mod Verdicts
pub mod Checkpoints
pub mod WitnessIds
