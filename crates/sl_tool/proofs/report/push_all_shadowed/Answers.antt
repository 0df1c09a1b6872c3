use Rattle.sl_spec_rules.proofs.Gathers.{all_gathered, gathers}
use Rattle.sl_tool.specs.GapText.{shadowed_line}
use Rattle.sl_tool_stages.specs.StageViews.{compiled_view}
use Rattle.sl_tool.proofs.report.push_all_shadowed.Goals as goal

pub ctors-preserved : goal.ctors-preserved
ctors-preserved c =
    gathers (shadowed_line (compiled_view c.args.places.now.compiled.now)) c.args.out.now.items c.args.ctors.now c.ctors.out.items c.push_shadowed.new.out.items c.ctors.ctor-index
    c.ctor-item.result c.ctors-test.true c.ctor-item.is c.in_ok-push_shadowed.ensures c.ctors.invariant

pub returns : goal.returns
returns c =
    all_gathered (shadowed_line (compiled_view c.args.places.now.compiled.now)) c.args.out.now.items c.args.ctors.now c.ctors.out.items c.ctors.ctor-index c.ctors-test.false
    c.ctors.invariant
