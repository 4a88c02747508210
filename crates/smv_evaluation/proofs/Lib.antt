pub mod DottedLemmas
pub mod LiteralLemmas
pub mod Evaluating
pub mod Positions
pub mod RowReads
pub mod Reaching
pub mod Filling
pub mod ValueAt
