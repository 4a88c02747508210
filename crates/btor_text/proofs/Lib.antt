mod Words
mod Search
mod MarkLaws
mod Laws
pub mod Digits
