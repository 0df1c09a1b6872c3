pub mod Cuts
pub mod NarrowLemmas
pub mod PerformLemmas
pub mod PutLemmas
pub mod RunLemmas
pub mod TemporaryLemmas
pub mod TextLaws
pub mod VarnodeTexts
