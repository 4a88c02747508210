pub mod Limits
pub mod Scripts
pub mod Judgement
pub mod Translation
pub mod MoxiLift
pub mod laws
