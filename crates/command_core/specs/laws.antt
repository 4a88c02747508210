-- Laws that crates above cite.
pub mod Files
pub mod Stops
pub mod Given
pub mod Texts
