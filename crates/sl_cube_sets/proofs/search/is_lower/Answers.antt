use Rattle.sl_cube_sets.proofs.search.is_lower.Goals as goal

pub returns-in_default-clause-fills : goal.returns-in_default-clause-fills
returns-in_default-clause-fills c = λ t. (rw c.as_slice.ensures.value at c.fills.ensures) c.if-not-fills.false

pub returns-clause-fills : goal.returns-clause-fills
returns-clause-fills c = λ t. (rw c.as_slice.ensures.value at c.fills.ensures) c.if-not-fills.false
