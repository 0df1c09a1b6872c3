pub mod Readings
pub mod Sites
pub mod FieldsAtPoints
pub mod Laws
