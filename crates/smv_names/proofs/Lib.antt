pub mod Above
pub mod DeclaringLemmas
pub mod Walks
pub mod FirstPart
pub mod Visiting
pub mod PathLemmas
pub mod CycleLemmas
pub mod InvariantLengths
