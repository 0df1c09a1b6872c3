pub mod Kept
pub mod Exported
mod Rows
pub mod Trees
pub mod StepNames
pub mod TermNames
pub mod Rules
