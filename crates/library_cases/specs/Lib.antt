pub mod Spelled
pub mod Free
