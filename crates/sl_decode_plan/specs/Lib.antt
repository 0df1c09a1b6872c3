pub mod Open
pub mod Plans
pub mod Rights
pub mod Rows
pub mod Settled
pub mod Steps
pub mod Uses
pub mod Values
