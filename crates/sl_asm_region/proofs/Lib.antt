mod LeftLemmas
mod RegionLemmas
