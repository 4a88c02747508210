pub mod FlatTests
pub mod Judging
