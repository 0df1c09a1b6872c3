use Rattle.sl_asm.proofs.AssembleLemmas.{NoneUpTo}
use Rattle.sl_asm.proofs.assembling.shortest.Given as goal

abbrev pub invariant-loop-shorter : goal.invariant-loop-shorter
invariant-loop-shorter l = NoneUpTo l.wanted l.shorter
