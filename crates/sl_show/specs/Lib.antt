pub mod Entries
pub mod Numbers
pub mod Pieces
pub mod Spans
pub mod Templates
pub mod Texts
