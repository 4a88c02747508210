-- Laws that crates above cite.
pub mod WholeNames
pub mod WholeParts
pub mod WholeScopes
pub mod WholeText
pub mod ListLaws
