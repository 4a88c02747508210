pub mod LineLaws
pub mod Lifting
pub mod Breaking
