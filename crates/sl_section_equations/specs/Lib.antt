pub mod Equations
pub mod Fits
pub mod Known
pub mod SizesIn
pub mod Uses
