pub mod Firsts
pub mod Digit
pub mod Scanning
pub mod Kept
pub mod Standing
pub mod Judging
