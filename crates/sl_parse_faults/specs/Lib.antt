pub mod Laws
pub mod Forms
pub mod Causes
