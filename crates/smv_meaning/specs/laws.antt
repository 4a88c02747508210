-- Laws that crates above cite.
pub mod Booleans
pub mod WordLemmas
pub mod Lists
pub mod Plain
pub mod Composing
