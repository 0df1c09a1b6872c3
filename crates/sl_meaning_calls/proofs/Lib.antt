pub mod CallLemmas
pub mod KeptLemmas
pub mod LabelLemmas
pub mod LawLemmas
pub mod LocalLemmas
pub mod StretchLemmas
