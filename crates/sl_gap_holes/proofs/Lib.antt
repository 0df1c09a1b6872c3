pub mod WindowLemmas
pub mod CoverLemmas
pub mod HoleLemmas
