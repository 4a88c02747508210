pub mod Assembling
pub mod SingleView
pub mod Lifting
pub mod Bounds
pub mod Symbols
