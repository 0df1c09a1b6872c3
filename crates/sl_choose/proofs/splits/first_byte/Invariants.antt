use Rattle.sl_choose.specs.Splits.{IsUnsplitByte}
use Rattle.sl_choose.proofs.splits.first_byte.Given as goal

abbrev pub invariant-loop-place : goal.invariant-loop-place
invariant-loop-place l = IsUnsplitByte l.entries l.room l.place
