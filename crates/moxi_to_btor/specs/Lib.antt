pub mod TermPutting
pub mod Standing
pub mod Terms
pub mod Putting
pub mod Queries
pub mod Systems
