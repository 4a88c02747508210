pub mod Lowered
pub mod Laws
