pub mod Numbers
pub mod PieceLemmas
pub mod PlacedLemmas
pub mod TermLemmas
