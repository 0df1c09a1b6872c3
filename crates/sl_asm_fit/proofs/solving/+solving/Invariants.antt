use Rattle.std.proofs.Common.{◌*◌, ◌+◌, length}
use Rattle.sl_asm_fit.proofs.SolveLemmas.{FirstDead}
use Rattle.sl_asm_fit.proofs.solving.+solving.Given as goal

abbrev pub decreases-found : goal.decreases-found
decreases-found l = 2 * length l.demands.now

abbrev pub decreases-tried : goal.decreases-tried
decreases-tried l = 2 * length l.rest.now + 1

abbrev pub invariant-found-loop-cube : goal.invariant-found-loop-cube
invariant-found-loop-cube l = FirstDead l.region l.context l.first.at l.rest l.first.cubes.items l.cube-index
