pub mod Capping
pub mod Keeping
pub mod Descending
pub mod Following
