pub mod CoverLemmas
pub mod SearchLemmas
