use Rattle.sl_spec_rules.proofs.Gathers.{IsGathered}
use Rattle.sl_tool.specs.GapText.{shadowed_line}
use Rattle.sl_tool_stages.specs.StageViews.{compiled_view}
use Rattle.sl_tool.proofs.report.push_all_shadowed.Given as goal

abbrev pub invariant-ctors : goal.invariant-ctors
invariant-ctors l = IsGathered (shadowed_line (compiled_view l.places.compiled.now)) l.initial.out.items l.ctors l.out.items l.ctor-index
