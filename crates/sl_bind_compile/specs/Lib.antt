pub mod Ambiguity
pub mod Outcomes
pub mod Refusals
pub mod AtTokens
pub mod Places
pub mod Compiled
pub mod Laws
