pub mod GivingLemmas
pub mod RowLemmas
pub mod SideLemmas
