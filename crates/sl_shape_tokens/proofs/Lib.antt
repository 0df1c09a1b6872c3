pub mod ByteLemmas
pub mod ListLemmas
pub mod NodeLemmas
pub mod ShapeLemmas
pub mod WalkLemmas
