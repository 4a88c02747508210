-- Laws that crates above cite.
pub mod FlatSteps
pub mod Reaching
