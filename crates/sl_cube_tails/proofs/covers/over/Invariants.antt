use Rattle.sl_cube_tails.proofs.CoverLemmas.{KeptFirst}
use Rattle.sl_cube_tails.proofs.covers.over.Given as goal

abbrev pub invariant-loop-cover : goal.invariant-loop-cover
invariant-loop-cover l = KeptFirst l.region l.covers l.kept.items l.cover-index
