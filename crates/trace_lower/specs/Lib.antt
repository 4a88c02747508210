pub mod Lowered
pub mod Stating
pub mod Ends
pub mod Laws
