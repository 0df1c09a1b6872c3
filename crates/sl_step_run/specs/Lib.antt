pub mod CountedLaws
pub mod Executing
pub mod Laws
pub mod RunLines
pub mod Running
pub mod Told
