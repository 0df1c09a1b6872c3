mod FirstLemmas
mod LineLemmas
mod FormLemmas
