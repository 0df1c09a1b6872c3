pub mod Chains
pub mod ListSteps
pub mod Answered
pub mod Lengths
pub mod Spelled
pub mod Places
pub mod Folds
