pub mod FlatSections
pub mod Judging
pub mod Laws
pub mod Scopes
pub mod Views
