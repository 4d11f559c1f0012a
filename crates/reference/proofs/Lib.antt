pub mod BranchReplay
pub mod Changes
pub mod Flags
pub mod KeptBlocks
pub mod States
pub mod Steps
