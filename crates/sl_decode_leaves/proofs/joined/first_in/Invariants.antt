use Rattle.std.proofs.Common.{◌≡◌, drop, List, ℕ}
use Rattle.sl_decode_meaning.specs.Places.{first_place}
use Rattle.sl_decode_leaves.specs.Extents.{leaves_at}
use Rattle.sl_decode_leaves.specs.Joined.{all_leaves}
use Rattle.sl_decode_leaves.proofs.joined.first_in.Given as goal

abbrev pub invariant-patterns : goal.invariant-patterns
invariant-patterns l = (lengths : List ℕ) → first_place l.name (leaves_at lengths (all_leaves (drop l.index l.patterns))) ≡ first_place l.name (leaves_at lengths (all_leaves l.patterns))
