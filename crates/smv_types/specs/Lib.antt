pub mod View
pub mod Outcome
pub mod Steps
pub mod Operands
pub mod laws
