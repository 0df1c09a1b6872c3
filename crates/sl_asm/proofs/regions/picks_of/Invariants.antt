use Rattle.sl_asm.proofs.PickLemmas.{FirstPicks}
use Rattle.sl_asm.proofs.regions.picks_of.Given as goal

abbrev pub invariant-places : goal.invariant-places
invariant-places l = FirstPicks l.kept l.number l.place l.out.items
