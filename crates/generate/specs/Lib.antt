pub mod Made
pub mod Verdicts
pub mod Generating
pub mod Laws
