pub mod Answers
pub mod Laws
pub mod Lines
pub mod Numbers
pub mod Operations
pub mod Readers
pub mod Sessions
