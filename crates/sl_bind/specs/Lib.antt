pub mod Binding
pub mod Indexes
pub mod Laws
pub mod Refusals
pub mod BindFaults
pub mod Sections
pub mod Steps
pub mod Verdict
