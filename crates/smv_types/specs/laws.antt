-- Laws that crates above cite.
pub mod Composing
pub mod Stepping
pub mod Known
pub mod Shapes
