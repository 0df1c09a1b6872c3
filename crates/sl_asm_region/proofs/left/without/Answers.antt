use Rattle.std.proofs.Common.{refl}
use Rattle.sl_cube.proofs.BitLemmas.{and_within, narrower_agrees}
use Rattle.sl_asm_region.proofs.left.without.Goals as goal

pub invariant_of-result : goal.invariant_of-result
invariant_of-result c = record { within = and_within _ _; ctx_within = and_within _ _ }

pub returns : goal.returns
returns c = λ p h. (
  narrower_agrees _ _ c.args.cube.now.mask c.args.cube.now.value p.bytes (and_within _ _) refl h.0,
  narrower_agrees _ _ c.args.cube.now.ctx_mask c.args.cube.now.ctx_value p.context (and_within _ _) refl h.1,
)
