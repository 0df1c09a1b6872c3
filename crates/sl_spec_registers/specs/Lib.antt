pub mod Bits
pub mod Free
pub mod NewNames
pub mod RegisterRules
pub mod SpaceRules
pub mod UserOps
