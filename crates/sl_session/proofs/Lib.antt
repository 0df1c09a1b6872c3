pub mod AnswerLemmas
pub mod BuiltLemmas
pub mod LawLemmas
pub mod LineLemmas
pub mod SessionLemmas
