pub mod BodyLemmas
pub mod ReferenceLemmas
