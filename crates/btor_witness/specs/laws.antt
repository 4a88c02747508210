-- Laws that crates above cite.
pub mod Binary
pub mod Shapes
pub mod Laws
pub mod Verdicts
