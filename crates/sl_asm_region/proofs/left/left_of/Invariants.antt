use Rattle.sl_asm_region.proofs.LeftLemmas.{LeftFirst}
use Rattle.sl_asm_region.proofs.left.left_of.Given as goal

abbrev pub invariant-loop-cube : goal.invariant-loop-cube
invariant-loop-cube l = LeftFirst l.cubes l.others l.cube-index l.out.items
