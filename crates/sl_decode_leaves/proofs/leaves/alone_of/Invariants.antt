use Rattle.std.proofs.Common.{◌≡◌, drop, List, ℕ}
use Rattle.sl_decode_meaning.specs.Places.{bare_place}
use Rattle.sl_decode_leaves.specs.Extents.{leaves_at}
use Rattle.sl_decode_leaves.proofs.leaves.alone_of.Given as goal

abbrev pub invariant-leaves : goal.invariant-leaves
invariant-leaves l = (lengths : List ℕ) → bare_place l.name (leaves_at lengths (drop l.leaf-index l.leaves)) ≡ bare_place l.name (leaves_at lengths l.leaves)
