pub mod Codes
pub mod Back
pub mod Witnesses
pub mod Accepted
pub mod Steps
pub mod Printed
