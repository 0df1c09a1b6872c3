pub mod SurelyLemmas
