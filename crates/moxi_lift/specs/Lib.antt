pub mod Lifted
pub mod Laws
pub mod Ends
