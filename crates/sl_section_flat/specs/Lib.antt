pub mod Numbered
pub mod Sections
pub mod Views
pub mod Chains
