pub mod LawLemmas
mod RowTheorems
pub mod RuleLemmas
