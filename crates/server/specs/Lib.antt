pub mod UnspentOutput
pub mod inside
