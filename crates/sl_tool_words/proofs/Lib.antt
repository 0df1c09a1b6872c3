pub mod Levels
pub mod ReadingLemmas
pub mod Rules
pub mod Summaries
pub mod TextLemmas
pub mod Walks
