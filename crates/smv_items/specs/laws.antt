-- Laws that crates above cite.
pub mod OriginLemmas
pub mod Counting
pub mod Differing
pub mod Declarations
