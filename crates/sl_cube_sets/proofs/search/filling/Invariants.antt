use Rattle.sl_cube_sets.specs.Left.{IsFilledBy}
use Rattle.sl_cube_sets.specs.Kept.{AreRight}
use Rattle.sl_cube_sets.proofs.search.filling.Given as goal

abbrev pub invariant-loop-candidate : goal.invariant-loop-candidate
invariant-loop-candidate l = record {
  filled : IsFilledBy l.region l.left l.found;
  right : AreRight l.sets l.answers;
}
