pub mod WordLaws
pub mod Names
pub mod NameLaws
pub mod WidthLaws
