pub mod Elements
pub mod Held
pub mod Steps
pub mod Verdicts
