pub mod BitLemmas
pub mod ChoiceLemmas
pub mod FinishLemmas
pub mod ReadLemmas
pub mod RowLemmas
pub mod SproutLemmas
