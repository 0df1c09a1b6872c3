pub mod ListedLemmas
pub mod NameLemmas
pub mod ReadyLemmas
pub mod ShownLemmas
pub mod StringLemmas
pub mod WholeLemmas
pub mod WrittenLemmas
