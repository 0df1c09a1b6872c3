use Rattle.std.specs.Prelude.{⊤}
use Rattle.sl_asm_region.proofs.left.is_in_one.Given as goal

abbrev pub invariant-loop-cube : goal.invariant-loop-cube
invariant-loop-cube l = ⊤
