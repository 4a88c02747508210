pub mod Ending
pub mod Leads
pub mod Numerals
pub mod Turns
pub mod Shrinking
