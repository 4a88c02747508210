pub mod Steps
mod TreeLists
mod LinkLists
pub mod Depths
pub mod InRange
pub mod Translated
mod Termed
pub mod Numbered
mod Chained
mod Walked
mod Formed
