pub mod ListLemmas
pub mod HoleLemmas
pub mod FindingLemmas
pub mod GapLemmas
pub mod OneReport
pub mod SomeReport
