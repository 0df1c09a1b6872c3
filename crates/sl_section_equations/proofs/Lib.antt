pub mod AboutLemmas
pub mod EquationLemmas
