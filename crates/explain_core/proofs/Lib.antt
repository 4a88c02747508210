pub mod Above
pub mod Grown
pub mod Putting
pub mod Skipping
pub mod Joining
pub mod Noting
pub mod Reading
