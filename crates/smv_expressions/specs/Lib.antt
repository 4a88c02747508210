pub mod Gathered
pub mod Following
