use Rattle.std.proofs.Common.{length, ◌≡◌}
use Rattle.sl_asm_print.proofs.SplitLemmas.{CutFirst}
use Rattle.sl_asm_print.specs.Splits.{pieces}
use Rattle.sl_asm_print.proofs.splitting.+add_splits.Given as goal

abbrev pub decreases-add_splits : goal.decreases-add_splits
decreases-add_splits l = length l.parts.now

abbrev pub invariant-ends : goal.invariant-ends
invariant-ends l = record {
  same : l.front.items ≡ l.fn.front.items;
  cut : CutFirst l.first l.rest l.text (pieces l.fn.front.items) l.end l.fn.out.items l.out.items;
}
