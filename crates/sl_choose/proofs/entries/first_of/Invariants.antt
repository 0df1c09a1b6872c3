use Rattle.std.proofs.Common.{◌≡◌, ℕ, ◌<◌, drop}
use Rattle.std.specs.Prelude.{find}
use Rattle.sl_choose.specs.Picked.{is_in}
use Rattle.std.specs.List.{HoldsAt}
use Rattle.sl_cube.specs.Points.{IsIn}
use Rattle.sl_choose.specs.declared.Entry.{Entry}
use Rattle.sl_choose.proofs.entries.first_of.Given as goal

abbrev pub invariant-loop-entry : goal.invariant-loop-entry
invariant-loop-entry l =
    ((k : ℕ) → k < l.entry-index → HoldsAt (λ (e : Entry). IsIn l.point e.cube → ⊥) l.leaf k)
    × (find (λ e. is_in l.point e.cube) (drop l.entry-index l.leaf) ≡ find (λ e. is_in l.point e.cube) l.leaf)
