pub mod PickLemmas
pub mod WantedLemmas
pub mod AssembleLemmas
