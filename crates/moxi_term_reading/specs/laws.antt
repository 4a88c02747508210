-- Laws that crates above cite.
pub mod Least
pub mod AllLaws
pub mod SortedParts
