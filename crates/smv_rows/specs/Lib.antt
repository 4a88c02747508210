pub mod Filling
pub mod Places
pub mod RowOrders
pub mod Listed
pub mod Relabelling
pub mod Truths
pub mod Numbered
