-- Laws that implementations cite.
pub mod Verdicts
