pub mod Fits
pub mod Labels
pub mod Models
pub mod Taken
pub mod Stated
