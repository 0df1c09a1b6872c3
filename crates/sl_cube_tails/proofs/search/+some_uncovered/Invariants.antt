use Rattle.std.proofs.Common.{◌+◌, ◌-◌, ◌^◌}
use Rattle.sl_cube_tails.proofs.search.+some_uncovered.Given as goal

abbrev pub decreases-some_uncovered : goal.decreases-some_uncovered
decreases-some_uncovered l = 2 ^ 128 - l.region.now.mask + (2 ^ 64 - l.region.now.ctx_mask)
