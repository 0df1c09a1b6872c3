use Rattle.sl_asm_bounds.proofs.HullLemmas.{HasFirst}
use Rattle.sl_asm_bounds.proofs.hulls.hull.Given as goal

abbrev pub invariant-cells : goal.invariant-cells
invariant-cells l = record {
  first : HasFirst l.a l.index l.out.items;
  second : HasFirst l.b l.index l.out.items;
}
