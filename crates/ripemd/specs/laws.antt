-- What holds of the definitions.
pub mod Ripemd160
