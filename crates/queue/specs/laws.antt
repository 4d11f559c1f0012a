pub mod FirstFailure
pub mod LentMidstates
pub mod SharedValues
pub mod NoAnswer
