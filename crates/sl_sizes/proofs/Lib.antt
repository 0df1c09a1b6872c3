pub mod NodeLemmas
pub mod SolutionLemmas
pub mod TreeLemmas
