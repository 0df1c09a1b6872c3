pub mod HeavyLemmas
pub mod ScopeLemmas
pub mod ReachingLemmas
