pub mod PartLaws
pub mod TreeLaws
pub mod OrderLaws
