pub mod Declared
pub mod FitLaws
pub mod StepLaws
pub mod Takes
pub mod ListedLaws
pub mod StatedRuns
