pub mod Counting
pub mod Amounts
pub mod CheckCounts
pub mod Copying
pub mod PlainParts
pub mod Instances
