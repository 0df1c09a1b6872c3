use Rattle.std.proofs.Common.{◌+◌, ◌-◌, ◌^◌}
use Rattle.sl_cube_marks.proofs.marks.+mark.Given as goal

abbrev pub decreases-mark : goal.decreases-mark
decreases-mark l = 2 ^ 128 - l.region.now.mask + (2 ^ 64 - l.region.now.ctx_mask)
