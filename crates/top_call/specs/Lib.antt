pub mod Summaries
pub mod Words
pub mod Outcome
pub mod Routes
pub mod Call
pub mod Promises
