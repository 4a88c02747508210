pub mod Printing
pub mod NamesOfScripts
pub mod laws
pub mod Again
pub mod ReadBack
