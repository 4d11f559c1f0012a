-- Theorems on the tree, for any blocks.
pub mod Above
pub mod AddedBlock
pub mod Best
pub mod Branches
pub mod Calls
pub mod Leaves
pub mod Marks
pub mod Orders
pub mod Parents
pub mod Ranks
pub mod Sets
pub mod Tips
pub mod Tops
pub mod Walks
