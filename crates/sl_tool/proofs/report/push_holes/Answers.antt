use Rattle.sl_spec_rules.proofs.Gathers.{all_gathered, gathers}
use Rattle.sl_tool.specs.GapText.{hole_line}
use Rattle.sl_tool_stages.specs.StageViews.{compiled_view}
use Rattle.sl_tool.proofs.report.push_holes.Goals as goal

pub holes-preserved : goal.holes-preserved
holes-preserved c =
    gathers (hole_line (compiled_view c.args.places.now.compiled.now)) c.args.out.now.items c.args.holes.now c.holes.out.items c.push_hole.new.out.items c.holes.hole-index
    c.hole-item.result c.holes-test.true c.hole-item.is c.in_ok-push_hole.ensures c.holes.invariant

pub returns : goal.returns
returns c =
    all_gathered (hole_line (compiled_view c.args.places.now.compiled.now)) c.args.out.now.items c.args.holes.now c.holes.out.items c.holes.hole-index c.holes-test.false
    c.holes.invariant
