pub mod Codes
pub mod Effects
pub mod Machine
pub mod Operations
pub mod SmallSteps
pub mod Targets
pub mod Text
pub mod WellFormed
