pub mod LinkLaws
pub mod Building
pub mod FoundLaws
