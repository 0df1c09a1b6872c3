use Rattle.sl_cube.specs.Tallies.{IsAmong}
use Rattle.sl_cube.proofs.tally.most.Given as goal

abbrev pub invariant-loop-digit : goal.invariant-loop-digit
invariant-loop-digit l = IsAmong l.fn.bits l.best
