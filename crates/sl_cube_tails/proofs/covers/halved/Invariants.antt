use Rattle.sl_cube_tails.proofs.CoverLemmas.{TalliedFirst}
use Rattle.sl_cube_tails.proofs.covers.halved.Given as goal

abbrev pub invariant-loop-cover : goal.invariant-loop-cover
invariant-loop-cover l = TalliedFirst l.region l.covers l.cover-index l.tally.shortest
