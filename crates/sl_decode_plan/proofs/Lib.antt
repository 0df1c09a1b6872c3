pub mod LookLemmas
pub mod MeaningLemmas
pub mod OpenLemmas
pub mod PlanLemmas
pub mod SettledLemmas
pub mod StepLemmas
pub mod UseLemmas
