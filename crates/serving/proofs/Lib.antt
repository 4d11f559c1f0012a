pub mod ClosingTokens
pub mod TokenLists
pub mod Refusals
