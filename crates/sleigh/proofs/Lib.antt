mod HandedLemmas
