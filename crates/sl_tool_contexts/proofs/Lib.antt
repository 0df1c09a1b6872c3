pub mod BitLemmas
pub mod BoundLemmas
