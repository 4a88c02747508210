pub mod FlatViews
pub mod TypedNodes
