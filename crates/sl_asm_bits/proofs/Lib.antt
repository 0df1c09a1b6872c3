pub mod BitLemmas
pub mod NumberLemmas
pub mod ShiftLemmas
pub mod SumLemmas
pub mod OperatorLemmas
