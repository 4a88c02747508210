pub mod Grow
pub mod KeyLemmas
pub mod LeadLemmas
pub mod KnownLemmas
pub mod ScanLemmas
pub mod TableLemmas
pub mod LastLemmas
pub mod DepthLemmas
