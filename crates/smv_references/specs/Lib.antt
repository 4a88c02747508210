pub mod View
pub mod BodyOrders
pub mod laws
