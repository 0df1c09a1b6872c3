pub mod BlockLemmas
mod DemandLemmas
pub mod DisplayLemmas
pub mod FactLemmas
pub mod MadeLemmas
pub mod MemberLemmas
pub mod NumberLemmas
pub mod OperandLemmas
mod RowTheorems
pub mod TableLemmas
