pub mod Rounds
pub mod Forms
pub mod Weights
pub mod Making
pub mod Dots
