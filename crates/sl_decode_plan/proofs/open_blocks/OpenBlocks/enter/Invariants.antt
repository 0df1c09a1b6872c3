use Rattle.std.proofs.Common.{take}
use Rattle.sl_decode_leaves.specs.Joined.{all_leaves}
use Rattle.sl_decode_plan.proofs.OpenLemmas.{AreFirst}
use Rattle.sl_decode_plan.proofs.open_blocks.OpenBlocks.enter.Given as goal

abbrev pub invariant-inside : goal.invariant-inside
invariant-inside l = AreFirst l.t l.operands l.leaves l.heads (all_leaves (take l.index l.patterns)) l.fn.self l.self-inside.blocks.items l.index
