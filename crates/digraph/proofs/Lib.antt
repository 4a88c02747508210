pub mod Lists
pub mod Laws
pub mod Visits
pub mod Sorting
pub mod RankLaws
