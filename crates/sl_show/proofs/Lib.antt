mod RowTheorems
pub mod DisplayLemmas
pub mod EntryLemmas
pub mod FlatLemmas
pub mod MakingLemmas
pub mod NumberLemmas
pub mod PartLemmas
pub mod SpanLemmas
