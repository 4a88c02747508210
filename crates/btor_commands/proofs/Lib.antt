pub mod Judgements
pub mod Fronts
pub mod Judged
pub mod Lifted
pub mod Imported
pub mod SmallerFrames
pub mod Smaller
