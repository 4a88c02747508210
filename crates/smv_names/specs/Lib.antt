pub mod Outcome
pub mod Visits
pub mod View
pub mod Declaring
pub mod Paths
pub mod Assigning
pub mod laws
