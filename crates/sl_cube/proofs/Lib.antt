pub mod BitLemmas
pub mod CubeLemmas
pub mod HalfLemmas
pub mod OutsideLemmas
pub mod TallyLemmas
