pub mod ListLemmas
pub mod TextLemmas
pub mod WalkLemmas
pub mod AddLemmas
pub mod PlaceLemmas
pub mod SpaceLemmas
pub mod CountLemmas
