pub mod Commands
pub mod FunctionView
pub mod Once
pub mod Sizes
pub mod Views
