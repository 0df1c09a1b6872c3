pub mod Sentences
pub mod Rows
pub mod Facts
pub mod Errors
pub mod Laws
