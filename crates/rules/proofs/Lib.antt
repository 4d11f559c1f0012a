pub mod FirstBroken
pub mod Pushes
