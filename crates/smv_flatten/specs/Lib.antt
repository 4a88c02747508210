pub mod FlatModel
pub mod Listing
pub mod Ordering
pub mod Phases
pub mod Refusing
pub mod laws
