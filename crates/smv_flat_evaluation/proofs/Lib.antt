pub mod Depths
pub mod Evaluating
pub mod SafeFlat
pub mod SafeForms
