pub mod Keeping
pub mod Kinds
pub mod FittingLaws
pub mod Translations
pub mod NameLaws
pub mod Names
pub mod KeepingLaws
