-- What holds of the definitions.
pub mod Ops
pub mod CutShort
pub mod Grammar
