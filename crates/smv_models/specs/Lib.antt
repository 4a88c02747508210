pub mod Limits
pub mod Models
