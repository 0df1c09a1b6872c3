use Rattle.sl_spec_actions.proofs.BlockLemmas.{AreFirst}
use Rattle.sl_spec_actions.proofs.blocks.JudgedBlocks.enter.Given as goal

abbrev pub invariant-inside : goal.invariant-inside
invariant-inside l = AreFirst l.all l.t l.blocks l.fn.self l.self l.index
