pub mod Symbols
pub mod Trees
pub mod Operators
pub mod Spelling
pub mod Validity
pub mod Unfolding
pub mod Views
pub mod Laws
