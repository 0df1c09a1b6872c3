use Rattle.sl_gap_tables.specs.Tables.{AreUnmatched}
use Rattle.sl_gap_tables.proofs.gaps.table_gaps.Given as goal

abbrev pub invariant-loop-kept : goal.invariant-loop-kept
invariant-loop-kept l = AreUnmatched l.tables l.told.items l.kept-index
