pub mod RowValues
pub mod Fronts
pub mod FlatSafety
