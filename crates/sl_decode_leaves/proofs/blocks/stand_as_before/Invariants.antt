use Rattle.sl_decode_leaves.specs.Blocks.{StandAsBefore, StandsAsBefore}
use Rattle.sl_decode_leaves.proofs.TiedLemmas.{IsLeft}
use Rattle.sl_decode_leaves.proofs.blocks.stand_as_before.Given as goal

abbrev pub invariant-tied : goal.invariant-tied
invariant-tied l = IsLeft (StandsAsBefore l.t l.operands) l.tied (StandAsBefore l.t l.operands l.tied) l.index
