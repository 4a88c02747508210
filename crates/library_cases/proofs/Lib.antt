pub mod Fitting
pub mod Last
pub mod Read
