pub mod AttachLemmas
pub mod FieldLemmas
pub mod RowTheorems
pub mod WordLemmas
