pub mod Names
pub mod laws
pub mod Tables
pub mod Sorted
pub mod Rows
pub mod Maps
