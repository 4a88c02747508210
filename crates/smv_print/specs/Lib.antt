pub mod Ranks
pub mod Printing
pub mod Unplaced
