use Rattle.std.proofs.Common.{◌≡◌, ◌++◌, drop, List, ℕ}
use Rattle.sl_decode_meaning.specs.Places.{first_place}
use Rattle.sl_decode_leaves.specs.Extents.{leaves_at}
use Rattle.sl_spec.specs.Tables.{Name}
use Rattle.sl_decode_leaves.proofs.leaves.firsts_in.Given as goal

abbrev pub invariant-leaves : goal.invariant-leaves
invariant-leaves l = (lengths : List ℕ) (name : Name) → first_place name (leaves_at lengths l.all ++ leaves_at lengths (drop l.index l.leaves)) ≡ first_place name (leaves_at lengths l.leaves)
