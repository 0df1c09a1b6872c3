pub mod MisusedLemmas
pub mod GraphLemmas
pub mod UnexportedLemmas
pub mod RowLemmas
pub mod MarkLemmas
pub mod SpreadLemmas
