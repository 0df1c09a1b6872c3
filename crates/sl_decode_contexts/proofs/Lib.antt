pub mod CommitLemmas
pub mod LatestLemmas
pub mod LawLemmas
pub mod SeenLemmas
pub mod SeveralLemmas
pub mod TreeLemmas
