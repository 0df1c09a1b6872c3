use Rattle.std.proofs.Common.{◌+◌, ◌-◌, ◌^◌}
use Rattle.sl_asm_region.proofs.left.+add_rest.Given as goal

abbrev pub decreases-add_rest : goal.decreases-add_rest
decreases-add_rest l = 2 ^ 128 - l.region.now.mask + (2 ^ 64 - l.region.now.ctx_mask)
