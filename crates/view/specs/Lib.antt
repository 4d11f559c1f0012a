pub mod HistoryPrefix
pub mod NextPublications
pub mod Origin
pub mod Rule
pub mod ViewState
pub mod inside
pub mod laws
