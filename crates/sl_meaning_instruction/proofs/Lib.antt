mod InstructionTheorems
pub mod LawLemmas
pub mod TableLemmas
