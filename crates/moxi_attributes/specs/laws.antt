-- Laws that crates above cite.
pub mod Collecting
pub mod FormSizes
