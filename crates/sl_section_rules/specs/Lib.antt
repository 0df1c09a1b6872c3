pub mod Known
pub mod Kinds
pub mod Macros
pub mod Scopes
pub mod SectionRules
pub mod WholeText
pub mod Holding
