pub mod ChoiceLemmas
pub mod ChooserLemmas
