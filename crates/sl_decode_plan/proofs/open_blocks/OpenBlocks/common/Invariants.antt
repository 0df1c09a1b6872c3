use Rattle.sl_decode_plan.proofs.OpenLemmas.{AreCommonUpTo}
use Rattle.sl_decode_plan.proofs.open_blocks.OpenBlocks.common.Given as goal

abbrev pub invariant-first : goal.invariant-first
invariant-first l = AreCommonUpTo l.patterns l.blocks l.heads l.index
