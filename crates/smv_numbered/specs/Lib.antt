pub mod Values
pub mod Runs
pub mod laws
pub mod Stated
