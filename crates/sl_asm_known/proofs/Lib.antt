pub mod TokenLemmas
pub mod FieldLemmas
pub mod EntryLemmas
pub mod HalfLemmas
pub mod ValueLemmas
pub mod BitsLemmas
