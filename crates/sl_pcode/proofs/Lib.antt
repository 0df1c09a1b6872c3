mod ByteCounts
mod DigitTexts
pub mod InRange
mod ListLemmas
pub mod Operands
pub mod RunLaws
pub mod StepLaws
