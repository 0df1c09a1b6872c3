pub mod SizeLemmas
pub mod BodyLemmas
pub mod WeightLemmas
