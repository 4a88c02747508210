-- Laws that crates above cite.
pub mod NameLemmas
pub mod ChildLemmas
