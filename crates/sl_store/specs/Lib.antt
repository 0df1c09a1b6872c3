pub mod Reads
pub mod Damage
pub mod Answers
pub mod Laws
pub mod Kinds
pub mod Numbers
