pub mod RunLemmas
pub mod WholeLemmas
pub mod LineLemmas
pub mod KeyLemmas
pub mod LevelLemmas
pub mod DirectiveLemmas
pub mod PieceLemmas
