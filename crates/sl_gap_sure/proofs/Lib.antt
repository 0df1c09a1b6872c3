pub mod WindowLemmas
pub mod NestLemmas
pub mod OutcomeLemmas
pub mod PlaceLemmas
pub mod AloneLemmas
pub mod GrowLemmas
pub mod SureLemmas
