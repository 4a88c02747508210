pub mod FlatItems
pub mod FlatOrigins
pub mod FlatItemView
pub mod Counts
pub mod laws
