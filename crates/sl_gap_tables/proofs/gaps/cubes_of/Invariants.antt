use Rattle.sl_gap_tables.proofs.GapLemmas.{CubesFirst}
use Rattle.sl_gap_tables.proofs.gaps.cubes_of.Given as goal

abbrev pub invariant-loop-set : goal.invariant-loop-set
invariant-loop-set l = CubesFirst l.kept.sets.items l.cubes.items l.set-index
