pub mod LineLemmas
pub mod DepthLemmas
