pub mod Answers
pub mod Brought
pub mod Verdicts
pub mod Lists
pub mod Delivery
