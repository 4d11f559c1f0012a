-- What holds of the definitions.
pub mod Alone
pub mod Application
pub mod AtTable
pub mod Broken
pub mod Turns
pub mod Scripts
pub mod Stops
pub mod Total
