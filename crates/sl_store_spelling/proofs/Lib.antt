pub mod CostLaws
pub mod NameLaws
pub mod FileLaws
pub mod LeafLaws
pub mod ModeLaws
