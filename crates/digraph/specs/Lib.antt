pub mod Graph
pub mod Searching
pub mod Visiting
pub mod Ordering
pub mod Components
pub mod Ranks
