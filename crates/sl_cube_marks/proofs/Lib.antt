pub mod RestLemmas
pub mod BestLemmas
pub mod MarkLemmas
