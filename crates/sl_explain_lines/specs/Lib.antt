pub mod Excerpts
pub mod FactLines
pub mod Laws
