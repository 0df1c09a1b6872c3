use Rattle.sl_tool.proofs.GapLemmas.{AreWritten}
use Rattle.sl_tool.proofs.report.push_tables.Given as goal

abbrev pub invariant-gaps : goal.invariant-gaps
invariant-gaps l = AreWritten l.t l.gaps l.initial.out.items l.out.items l.table
