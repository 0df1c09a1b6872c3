mod LabelLemmas
