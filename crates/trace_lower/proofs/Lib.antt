pub mod WordLaws
pub mod Groups
pub mod FrameLaws
pub mod States
pub mod Steps
pub mod Meeting
pub mod Accepted
pub mod Back
