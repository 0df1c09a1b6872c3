pub mod Constructors
pub mod ConstructorView
pub mod Findings
pub mod FaultWords
pub mod Laws
