use Rattle.sl_shape_patterns.proofs.reader.Reader.constructor_window.Goals as goal

pub returns-clause-kept : goal.returns-clause-kept
returns-clause-kept g c = rw c.as_slice.ensures.value at c.in_ok-window.ensures.kept

pub returns-clause-others : goal.returns-clause-others
returns-clause-others g c = rw c.as_slice.ensures.value at c.in_ok-window.ensures.others
