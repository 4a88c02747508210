pub mod Kinds
pub mod Tokens
pub mod Lines
pub mod Near
pub mod Advice
pub mod Notes
pub mod Messages
pub mod Explaining
