pub mod Reading
pub mod Adding
pub mod Answer
pub mod Spelling
pub mod Printable
