use Rattle.sl_cube_marks.specs.Rests.{IsFilledBy}
use Rattle.sl_cube_marks.proofs.narrowing.filler.Given as goal

abbrev pub invariant-loop-rest : goal.invariant-loop-rest
invariant-loop-rest l = IsFilledBy l.region l.left l.found
