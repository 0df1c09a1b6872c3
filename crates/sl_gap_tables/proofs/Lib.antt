pub mod SetLemmas
pub mod GapLemmas
pub mod ChosenLemmas
