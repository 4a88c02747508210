-- Laws that crates above cite.
pub mod StandingShapes
pub mod StandingPlaces
