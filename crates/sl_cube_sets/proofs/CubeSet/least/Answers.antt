use Rattle.sl_cube_sets.proofs.CubeSet.least.Goals as goal

pub returns : goal.returns
returns c = rw c.deref.ensures.value at c.least_of.ensures
