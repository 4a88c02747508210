pub mod Sources
pub mod Checked
pub mod Forms
