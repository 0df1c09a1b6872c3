pub mod Operands
pub mod SectionLemmas
