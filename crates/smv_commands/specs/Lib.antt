pub mod Limits
pub mod Scripts
pub mod Traces
pub mod SmvJudgement
pub mod Translation
pub mod SmvLift
pub mod Lowering
