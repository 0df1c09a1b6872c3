use Rattle.sl_cube_sets.proofs.LeftLemmas.{carries_without}
use Rattle.sl_cube_sets.proofs.search.thinned.Goals as goal

pub returns-clause-thin : goal.returns-clause-thin
returns-clause-thin c =
    carries_without c.args.sets.now c.args.region.now c.args.left.now c.in_ok-thin.thin.items c.in_ok-filled.filled c.in_ok-filled.ensures.filled c.in_ok-thin.ensures.thin
