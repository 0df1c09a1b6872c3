pub mod Finding
pub mod LengthLemmas
