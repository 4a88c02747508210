pub mod FirstBytes
pub mod LineEnds
pub mod Margins
