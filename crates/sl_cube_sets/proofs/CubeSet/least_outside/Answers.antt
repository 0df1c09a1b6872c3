use Rattle.sl_cube_sets.proofs.CubeSet.least_outside.Goals as goal

pub returns : goal.returns
returns c = rw (c.deref.ensures.value, c.deref-2.ensures.value) at c.least_in_none.ensures
