mod NumberLemmas
mod TextLemmas
mod FrontLemmas
mod ReadingLemmas
mod PatchLemmas
mod ItselfLemmas
mod EncoderLemmas
mod PatchedLemmas
mod UniqueLemmas
pub mod OutcomeLemmas
pub mod LawLemmas
