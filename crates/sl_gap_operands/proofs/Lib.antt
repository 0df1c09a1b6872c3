pub mod QuietLemmas
