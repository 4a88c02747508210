pub mod Models
pub mod Frames
pub mod Lifts
pub mod Breaks
pub mod Runs
