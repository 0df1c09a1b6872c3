use Rattle.sl_cube.proofs.OutsideLemmas.{KeepsFirst}
use Rattle.sl_cube.proofs.outside.meeting.Given as goal

abbrev pub invariant-loop-other : goal.invariant-loop-other
invariant-loop-other l = KeepsFirst l.cube l.others l.kept.items l.other-index
