use Rattle.std.proofs.Common.{refl}
use Rattle.sl_cube_sets.proofs.LeastLemmas.{whole_cube}
use Rattle.sl_gap_tables.proofs.GapLemmas.{unmatched_found}
use Rattle.sl_gap_tables.proofs.gaps.unmatched.Goals as goal

pub returns : goal.returns
returns c =
    let found = rw c.deref.ensures.value at c.in_ok-found.ensures in
    unmatched_found c.args.kept.now whole_cube c.in_ok-cubes.cubes.items refl refl c.in_ok-cubes.ensures c.in_ok-found.found found
