pub mod WidthLemmas
pub mod WidthLaw
pub mod SourceWidths
pub mod ModelWidths
pub mod SpelledWidths
