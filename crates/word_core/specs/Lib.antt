pub mod Words
pub mod Table
pub mod Digits
pub mod laws
