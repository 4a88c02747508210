pub mod Finding
pub mod Lines
pub mod Handing
pub mod Loop
pub mod Unique
pub mod Truths
pub mod Stating
pub mod NextWords
