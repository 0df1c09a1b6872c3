pub mod MacroWeights
pub mod StepParts
pub mod TermParts
pub mod Limits
pub mod Orders
