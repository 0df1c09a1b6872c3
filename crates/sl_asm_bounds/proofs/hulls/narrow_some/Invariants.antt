use Rattle.std.proofs.Common.{length}
use Rattle.std.specs.Prelude.{option_map}
use Rattle.sl_asm_bounds.proofs.HullLemmas.{KeepsFirst}
use Rattle.sl_asm_bounds.specs.Bounds.{IsAsLong}
use Rattle.sl_asm_bounds.proofs.hulls.narrow_some.Given as goal

abbrev pub invariant-loop-cube : goal.invariant-loop-cube
invariant-loop-cube l = record {
  keeps : KeepsFirst l.region l.at l.context l.cubes l.cube-index (option_map (λ v. v.items) l.all);
  long : IsAsLong (length l.region) (option_map (λ v. v.items) l.all);
}
