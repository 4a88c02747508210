pub mod View
pub mod NameCounts
pub mod NameMap
pub mod Leads
pub mod laws
