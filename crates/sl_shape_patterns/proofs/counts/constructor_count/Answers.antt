use Rattle.sl_shape_patterns.proofs.counts.constructor_count.Goals as goal

pub returns-clause-kept : goal.returns-clause-kept
returns-clause-kept c = rw c.as_slice.ensures.value at c.in_ok-count.ensures.kept
