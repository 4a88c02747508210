pub mod Words
pub mod Lists
pub mod Formulas
pub mod Steps
pub mod Rows
pub mod Traces
pub mod OpenBrackets
