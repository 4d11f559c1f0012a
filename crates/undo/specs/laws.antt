pub mod Effects
pub mod Reversal
pub mod RoundTrip
