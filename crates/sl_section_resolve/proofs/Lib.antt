pub mod BelowSteps
pub mod WorkLemmas
pub mod MacroLemmas
