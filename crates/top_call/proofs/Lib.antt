pub mod OutcomeLemmas
pub mod Stops
pub mod TwoRoutes
pub mod Summaries
pub mod Returns
