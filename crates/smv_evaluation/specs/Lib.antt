pub mod View
pub mod Dotting
pub mod Rows
pub mod Asked
