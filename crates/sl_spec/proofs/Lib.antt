pub mod FieldLemmas
mod AttachmentLemmas
mod BegunLemmas
pub mod KeyedLemmas
pub mod MadeLemmas
pub mod NumberLemmas
pub mod SeenLemmas
mod ThingLemmas
pub mod TokenLemmas
pub mod WalkLemmas
