pub mod BitRangeLemmas
pub mod BoolLemmas
pub mod FreshLemmas
pub mod RegisterLemmas
pub mod SpaceLemmas
