use Rattle.std.proofs.Common.{◌≡◌, ℕ, ◌<◌, true}
use Rattle.std.specs.BTreeSet.{contains}
use Rattle.std.specs.Ordering.{nat_cmp}
use Rattle.sl_show.specs.Templates.{AreOnce, IsTableAt}
use Rattle.sl_show.proofs.templates.has_repeats.Given as goal

abbrev pub invariant-parts : goal.invariant-parts
invariant-parts l = record {
  seen : (number i : ℕ) → i < l.part-index → IsTableAt l.parts i number → contains nat_cmp l.shown number ≡ true;
  found : (number : ℕ) → contains nat_cmp l.shown number ≡ true → (i : ℕ) × (i < l.part-index) × IsTableAt l.parts i number;
  once : AreOnce l.parts l.part-index;
}
