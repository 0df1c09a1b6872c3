pub mod Findings
pub mod FaultWords
pub mod Laws
