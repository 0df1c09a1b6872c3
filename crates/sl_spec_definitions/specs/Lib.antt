pub mod AttachRules
pub mod Beginning
pub mod FieldRules
pub mod Fits
pub mod Items
pub mod Words
