use Rattle.sl_cube_tails.proofs.CoverLemmas.{TailsFirst}
use Rattle.sl_cube_tails.proofs.covers.tails_at.Given as goal

abbrev pub invariant-loop-cover : goal.invariant-loop-cover
invariant-loop-cover l = TailsFirst l.point l.covers l.tails.items l.cover-index
