pub mod OrderLemmas
pub mod EdgeLemmas
