pub mod ResultLemmas
pub mod StandLemmas
pub mod OutcomeLemmas
pub mod RefusalLemmas
