use Rattle.std.proofs.Common.{List, ap, subst, ◌∙◌}
use Rattle.sl_ast.specs.Views.{constructor_of}
use Rattle.sl_spec_actions.specs.Blocks.{AreFactsInside}
use Rattle.sl_spec_actions.specs.Levels.{Level}
use Rattle.sl_spec_actions.specs.PatternNames.{standing_of}
use Rattle.sl_spec_actions.proofs.BlockLemmas.{facts_of_level}
use Rattle.sl_spec_actions.proofs.blocks.facts_inside.Goals as goal

pub returns : goal.returns
returns c =
    let all = c.args.all.now in
    let t = c.args.t.now in
    let own = constructor_of c.args.of.now.own.now in
    let l = c.in_ok-level.level in
    subst (λ (ls : List Level). AreFactsInside all t own ls c.facts_at.result.given c.facts_at.result.broken) (c.as_slice-around.ensures.value ∙ c.blocks-2.view_is)
    (facts_of_level all t own c.as_slice-around.result.now l c.facts_at.result.given c.facts_at.result.broken (ap standing_of c.in_ok-level.ensures.names_are ∙ c.in_ok-names.ensures)
    c.in_ok-level.ensures.judged c.facts_at.ensures.given c.facts_at.ensures.broken)
