pub mod Demands
pub mod Gathered
pub mod Laws
pub mod Names
