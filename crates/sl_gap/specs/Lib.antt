pub mod Holes
pub mod Reports
pub mod Views
pub mod Findings
pub mod Laws
