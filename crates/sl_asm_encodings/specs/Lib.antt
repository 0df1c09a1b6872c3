pub mod Encodings
pub mod Laws
pub mod Readings
pub mod Written
