pub mod Sets
pub mod Reports
pub mod Unions
pub mod Firsts
pub mod Settled
pub mod Left
pub mod Kept
