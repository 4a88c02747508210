pub mod Items
pub mod Models
pub mod ItemNumbers
pub mod Forms
