pub mod Below
pub mod TermLemmas
