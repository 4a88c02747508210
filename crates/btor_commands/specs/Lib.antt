pub mod Limits
pub mod Judgement
pub mod Pieces
pub mod Lifting
pub mod Traces
pub mod Importing
pub mod Simplifying
pub mod laws
