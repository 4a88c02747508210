pub mod FirstBytes
pub mod PlaceLaws
pub mod SortLaws
pub mod OperatorLaws
pub mod ValueLaws
pub mod Plain
pub mod Evaluating
pub mod ScopeLaws
