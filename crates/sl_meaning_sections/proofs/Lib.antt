pub mod KeepLemmas
pub mod LawLemmas
pub mod Rows
