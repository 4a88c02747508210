pub mod Values
pub mod Reading
pub mod Numbering
pub mod Texts
pub mod ReadBack
pub mod Examples
pub mod Answer
