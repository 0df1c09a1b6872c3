pub mod Uses
pub mod Lists
pub mod Locals
pub mod Notes
pub mod Lines
pub mod Laws
