pub mod Named
pub mod Spelled
pub mod ReadAgain
pub mod OwnNames
