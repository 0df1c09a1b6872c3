pub mod ByNameLemmas
pub mod DigitLemmas
pub mod IndexLemmas
pub mod KeyLemmas
