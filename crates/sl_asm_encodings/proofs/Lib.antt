pub mod ActionLemmas
pub mod LawLemmas
pub mod ReadingLemmas
