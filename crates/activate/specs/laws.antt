-- Theorems on paths between branches, and on what is kept beside the tree.
pub mod ByHeight
pub mod WalkUp
pub mod Fork
pub mod Growth
pub mod Lookups
pub mod TryNotes
pub mod OtherBranch
