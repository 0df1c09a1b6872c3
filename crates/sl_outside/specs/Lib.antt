pub mod Causes
pub mod Folder
pub mod Uses
pub mod Stops
pub mod Room
pub mod Memory
