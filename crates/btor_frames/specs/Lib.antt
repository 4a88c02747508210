pub mod Steps
pub mod Sources
pub mod Tables
pub mod Held
pub mod Judged
