pub mod Codes
pub mod TermLines
pub mod TermLaws
pub mod Lines
pub mod Constraints
pub mod Variables
pub mod Decoding
pub mod System
