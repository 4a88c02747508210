pub mod Entries
pub mod Outcome
pub mod Kept
pub mod Reading
pub mod Building
