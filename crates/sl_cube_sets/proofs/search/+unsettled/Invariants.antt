use Rattle.std.proofs.Common.{◌+◌, ◌-◌, ◌^◌}
use Rattle.sl_cube_sets.proofs.search.+unsettled.Given as goal

abbrev pub decreases-unsettled : goal.decreases-unsettled
decreases-unsettled l = 2 ^ 128 - l.region.now.mask + (2 ^ 64 - l.region.now.ctx_mask)
