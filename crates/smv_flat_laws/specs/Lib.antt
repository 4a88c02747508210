pub mod FlatLaws
pub mod FlatBounds
pub mod FlatOrders
