pub mod SameBlocks
mod Changes
mod ClearedMarks
mod Grown
mod Laid
mod MarkChanges
mod GenesisTree
mod Times
mod Views
