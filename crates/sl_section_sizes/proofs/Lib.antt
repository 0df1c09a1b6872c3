pub mod ExportLemmas
pub mod LastLemmas
pub mod RunLemmas
pub mod OneLemmas
pub mod SomeLemmas
pub mod PutLemmas
pub mod ToldLemmas
