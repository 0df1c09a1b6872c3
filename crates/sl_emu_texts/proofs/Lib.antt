pub mod LineLemmas
pub mod NameLemmas
pub mod RunLemmas
pub mod TextLemmas
pub mod WordLemmas
