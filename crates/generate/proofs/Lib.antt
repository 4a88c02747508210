pub mod TextLengths
pub mod Accepting
pub mod Answering
pub mod Forms
pub mod OneAnswer
pub mod ListedRuns
