use Rattle.sl_decode_plan.specs.Uses.{ReadAsBefore, ReadsAsBefore}
use Rattle.sl_decode_leaves.proofs.TiedLemmas.{IsLeft}
use Rattle.sl_decode_plan.proofs.uses.read_as_before.Given as goal

abbrev pub invariant-used : goal.invariant-used
invariant-used l = IsLeft (ReadsAsBefore l.t l.operands l.leaves) l.used (ReadAsBefore l.t l.operands l.leaves l.used) l.index
