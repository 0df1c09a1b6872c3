pub mod Differ
pub mod Gathers
pub mod ListLemmas
pub mod Runs
pub mod RunLaws
pub mod Seen
