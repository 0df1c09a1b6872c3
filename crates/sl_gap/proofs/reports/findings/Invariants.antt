use Rattle.sl_gap.specs.Findings.{AreKept}
use Rattle.sl_gap.proofs.GapLemmas.{FoundFirst}
use Rattle.sl_spec.specs.Unfolded.{all_placed}
use Rattle.sl_gap.proofs.reports.findings.Given as goal

abbrev pub invariant-constructors : goal.invariant-constructors
invariant-constructors l = AreKept l.t (all_placed l.constructors) l.tables → FoundFirst l.t (all_placed l.constructors) l.all.holes.items l.all.plain l.index
