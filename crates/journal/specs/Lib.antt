pub mod Agreement
pub mod Found
pub mod Heights
pub mod Line
pub mod SavedRun
pub mod inside
