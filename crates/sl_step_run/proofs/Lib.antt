pub mod ChangeLemmas
pub mod CountedLemmas
mod KeptLemmas
pub mod LawLemmas
mod OpeningLemmas
mod RunLemmas
mod StepsLemmas
mod TextLemmas
mod ToldLemmas
