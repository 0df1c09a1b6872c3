pub mod BitLemmas
pub mod WindowLemmas
pub mod RegionLemmas
pub mod FrontLemmas
mod SolveLemmas
