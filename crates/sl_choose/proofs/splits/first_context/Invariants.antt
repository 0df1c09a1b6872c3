use Rattle.sl_choose.specs.Splits.{IsUnsplitContext}
use Rattle.sl_choose.proofs.splits.first_context.Given as goal

abbrev pub invariant-loop-place : goal.invariant-loop-place
invariant-loop-place l = IsUnsplitContext l.entries l.room l.place
