use Rattle.std.proofs.Common.{◌≡◌, drop, List, ℕ}
use Rattle.sl_decode_meaning.specs.Places.{bare_place}
use Rattle.sl_decode_leaves.specs.Extents.{leaves_at}
use Rattle.sl_decode_leaves.specs.Joined.{all_leaves}
use Rattle.sl_decode_leaves.proofs.joined.alone_in.Given as goal

abbrev pub invariant-patterns : goal.invariant-patterns
invariant-patterns l = (lengths : List ℕ) → bare_place l.name (leaves_at lengths (all_leaves (drop l.index l.patterns))) ≡ bare_place l.name (leaves_at lengths (all_leaves l.patterns))
