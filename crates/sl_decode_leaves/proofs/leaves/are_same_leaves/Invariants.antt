use Rattle.std.proofs.Common.{◌≡◌, drop, List, ℕ}
use Rattle.sl_decode_leaves.specs.Extents.{leaves_at}
use Rattle.sl_decode_leaves.proofs.leaves.are_same_leaves.Given as goal

abbrev pub invariant-leaves : goal.invariant-leaves
invariant-leaves l = (lengths : List ℕ) → leaves_at lengths (drop l.index l.some) ≡ leaves_at lengths (drop l.index l.others)
    → leaves_at lengths l.some ≡ leaves_at lengths l.others
