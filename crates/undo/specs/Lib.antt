pub mod Effect
pub mod inside
pub mod laws
