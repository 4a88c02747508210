pub mod Skeleton
pub mod Layout
pub mod LayoutLaws
pub mod Witnesses
pub mod LineLaws
pub mod Counts
pub mod ConstantLaws
