use Rattle.sl_cube_sets.proofs.CubeSet.has.Goals as goal

pub returns : goal.returns
returns c = rw c.deref.ensures.value at c.is_in_some.ensures
