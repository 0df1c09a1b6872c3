use Rattle.std.proofs.Common.{◌≡◌, ◌++◌, drop, List, ℕ}
use Rattle.sl_decode_meaning.specs.Places.{bare_place}
use Rattle.sl_decode_leaves.specs.Extents.{leaves_at}
use Rattle.sl_spec.specs.Tables.{Name}
use Rattle.sl_decode_leaves.proofs.leaves.alone_in.Given as goal

abbrev pub invariant-leaves : goal.invariant-leaves
invariant-leaves l = (lengths : List ℕ) (name : Name) → bare_place name (leaves_at lengths l.all.items ++ leaves_at lengths (drop l.index l.leaves)) ≡ bare_place name (leaves_at lengths l.leaves)
