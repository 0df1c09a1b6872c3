use Rattle.std.proofs.Common.{List, ap, subst, sym, ◌∙◌}
use Rattle.sl_ast.specs.Trees.{Action}
use Rattle.sl_ast.specs.Views.{actions_of}
use Rattle.sl_spec_actions.specs.Levels.{StaysJudged}
use Rattle.sl_spec_actions.specs.SeenActions.{seen_written}
use Rattle.sl_spec_actions.specs.Stands.{stands_of}
use Rattle.sl_spec_actions.proofs.actions.add_written.Goals as goal

pub returns-in_ok-add_all_judged-in-Some : goal.returns-in_ok-add_all_judged-in-Some
returns-in_ok-add_all_judged-in-Some c =
    subst (λ (as' : List Action). StaysJudged c.args.all.now c.args.t.now (stands_of c.args.stands.now) as' c.args.judged.now c.add_all_judged.new.judged)
    (ap actions_of c.as_slice.ensures.value ∙ ap seen_written (sym c.in-Some.is)) c.in_ok-add_all_judged-in-Some.ensures
