pub mod PlaceLemmas
