pub mod Answers
pub mod Parsing
pub mod laws
