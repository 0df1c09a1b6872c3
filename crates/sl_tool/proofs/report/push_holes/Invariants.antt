use Rattle.sl_spec_rules.proofs.Gathers.{IsGathered}
use Rattle.sl_tool.specs.GapText.{hole_line}
use Rattle.sl_tool_stages.specs.StageViews.{compiled_view}
use Rattle.sl_tool.proofs.report.push_holes.Given as goal

abbrev pub invariant-holes : goal.invariant-holes
invariant-holes l = IsGathered (hole_line (compiled_view l.places.compiled.now)) l.initial.out.items l.holes l.out.items l.hole-index
