pub mod Seen
pub mod Marks
pub mod Answer
pub mod laws
