use Rattle.sl_cube_sets.specs.Unions.{has_set}
use Rattle.sl_cube_sets.proofs.PairLemmas.{settled_without_pair}
use Rattle.sl_cube_sets.proofs.ReportLemmas.{unsettled_there}
use Rattle.sl_cube_sets.proofs.pair.pair_at.Goals as goal

pub unreachable-requires : goal.unreachable-requires
unreachable-requires c =
    let sets = c.args.sets.now in
    settled_without_pair has_set sets c.args.point.now (rw c.in_default.is at c.in_ok-found.ensures) (unsettled_there sets c.args.point.now c.requires)
