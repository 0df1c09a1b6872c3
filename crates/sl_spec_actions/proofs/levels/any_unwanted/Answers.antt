use Rattle.std.proofs.Common.{arith, sym, ◌∙◌}
use Rattle.sl_spec_actions.specs.Levels.{is_unwanted}
use Rattle.sl_spec_actions.proofs.LevelLemmas.{unwanted_names}
use Rattle.sl_spec_actions.proofs.PendingLemmas.{any_ends, any_found, any_goes}
use Rattle.sl_spec_actions.proofs.levels.any_unwanted.Goals as goal

pub returns-then-is_unwanted : goal.returns-then-is_unwanted
returns-then-is_unwanted c =
    let levels = c.args.levels.now in
    let names = c.args.names.now in
    any_found (is_unwanted levels) names c.names.index _ (omega (arith, c.len-index-end.ensures, c.names-test.true)) c.name_at.ensures (sym c.is_unwanted.ensures ∙ c.if-is_unwanted.true) c.names.invariant ∙ unwanted_names levels names

pub names-preserved : goal.names-preserved
names-preserved c =
    any_goes (is_unwanted c.args.levels.now) c.args.names.now c.names.index _ (omega (arith, c.len-index-end.ensures, c.names-test.true)) c.name_at.ensures (sym c.is_unwanted.ensures ∙ c.if-is_unwanted.false) c.names.invariant

pub returns : goal.returns
returns c =
    let levels = c.args.levels.now in
    let names = c.args.names.now in
    any_ends (is_unwanted levels) names c.names.index (omega (arith, c.len-index-end.ensures, c.names-test.false)) c.names.invariant ∙ unwanted_names levels names
