pub mod Marks
pub mod Kept
pub mod Ranks
pub mod Machine
pub mod Reading
pub mod Taken
pub mod Readers
pub mod Rules
