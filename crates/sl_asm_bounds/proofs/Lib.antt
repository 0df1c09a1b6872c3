pub mod HullLemmas
pub mod BoundLemmas
pub mod ContextLemmas
pub mod ExtentLemmas
