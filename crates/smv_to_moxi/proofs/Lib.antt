mod Scripts
mod SpelledScripts
mod Bounded
pub mod LiftedParts
pub mod LiftedSteps
pub mod LiftedWords
pub mod LiftedTraces
mod LowBodies
mod SmallModels
