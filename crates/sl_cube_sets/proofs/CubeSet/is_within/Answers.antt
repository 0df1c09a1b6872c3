use Rattle.sl_cube_sets.proofs.CubeSet.is_within.Goals as goal

pub returns : goal.returns
returns c = rw (c.deref.ensures.value, c.deref-2.ensures.value) at c.is_within.ensures
