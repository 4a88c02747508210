pub mod WordLaws
pub mod Holds
pub mod Widths
