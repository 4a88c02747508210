pub mod Codes
pub mod Operators
pub mod Terms
pub mod Script
pub mod Ranges
