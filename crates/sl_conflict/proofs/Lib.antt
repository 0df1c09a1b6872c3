pub mod AmbiguityLemmas
pub mod JudgeLemmas
pub mod NumberLemmas
pub mod RowLemmas
pub mod SpreadLemmas
pub mod TableLemmas
pub mod SoundLemmas
