use Rattle.std.proofs.Common.{◌≡◌, length}
use Rattle.sl_asm_narrow.proofs.SpotLemmas.{StayIn}
use Rattle.sl_asm_narrow.proofs.spots.by_parts.Given as goal

abbrev pub invariant-parts : goal.invariant-parts
invariant-parts l = record {
  stay : StayIn l.t l.lengths l.goal.at l.goal.context l.parts l.texts l.fn.region.items l.left.items;
  long : length l.left.items ≡ length l.fn.region.items;
}
