pub mod Counts
mod UseLemmas
