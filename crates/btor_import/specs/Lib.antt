pub mod Operators
pub mod Widths
pub mod Script
pub mod Assembling
pub mod Laws
