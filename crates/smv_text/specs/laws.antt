-- What the definitions have to do with one another.
pub mod Operators
