pub mod Line
pub mod Block
pub mod Ripemd160
pub mod Hasher
pub mod inside
pub mod laws
