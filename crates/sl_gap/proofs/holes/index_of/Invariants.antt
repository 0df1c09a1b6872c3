use Rattle.std.proofs.Common.{◌≡◌, ◌<◌, ℕ, Some}
use Rattle.std.specs.Prelude.{slice_get}
use Rattle.sl_gap.proofs.holes.index_of.Given as goal

abbrev pub invariant-ctors : goal.invariant-ctors
invariant-ctors l = (i : ℕ) → i < l.index → slice_get l.ctors i ≡ Some l.ctor → ⊥
