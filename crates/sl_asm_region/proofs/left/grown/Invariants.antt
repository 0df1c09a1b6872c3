use Rattle.sl_asm_region.specs.Left.{IsGrown}
use Rattle.sl_asm_region.proofs.left.grown.Given as goal

abbrev pub invariant-loop-place : goal.invariant-loop-place
invariant-loop-place l = IsGrown l.cubes l.others l.region l.big

abbrev pub invariant-loop-place-2 : goal.invariant-loop-place-2
invariant-loop-place-2 l = IsGrown l.cubes l.others l.region l.big
