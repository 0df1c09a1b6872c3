pub mod Counted
pub mod Laws
pub mod Shaped
pub mod Sound
