pub mod KeyLaws
mod Places
pub mod SortedLemmas
pub mod RowLemmas
pub mod FreshNames
