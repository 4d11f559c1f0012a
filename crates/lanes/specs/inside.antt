-- What private functions and invariants alone cite.
pub mod EachLane
pub mod PaddedBlocks
pub mod Level
pub mod Messages
pub mod Rounds
