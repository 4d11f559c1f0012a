pub mod Shape
pub mod Triple
pub mod Known
pub mod Lines
pub mod inside
pub mod computed
pub mod laws
pub use Rattle.hex.specs.Hex
