pub mod BoundLemmas
pub mod GrowLemmas
pub mod LengthLemmas
pub mod NameLemmas
pub mod PatternLemmas
pub mod RuleLemmas
pub mod AcceptedLemmas
pub mod StandLemmas
