use Rattle.std.proofs.Common.{ℕ, ◌<◌}
use Rattle.std.specs.List.{HoldsAt}
use Rattle.sl_choose.specs.declared.Entry.{Entry}
use Rattle.sl_choose.specs.Sides.{SetsNone}
use Rattle.sl_choose.proofs.sides.some_clear.Given as goal

abbrev pub invariant-loop-entry : goal.invariant-loop-entry
invariant-loop-entry l = (k : ℕ) → k < l.entry-index → HoldsAt (λ (e : Entry). SetsNone e.cube l.bits → ⊥) l.entries k
