pub mod FileCalls
mod Lives
mod CutEnd
pub mod Sound
mod Torn
mod TornLine
mod Whole
