use Rattle.std.specs.Prelude.{take}
use Rattle.sl_ast.specs.Views.{actions_of}
use Rattle.sl_spec_actions.specs.Levels.{StaysJudged}
use Rattle.sl_spec_actions.specs.Stands.{stands_of}
use Rattle.sl_spec_actions.proofs.actions.add_all_judged.Given as goal

abbrev pub invariant-actions : goal.invariant-actions
invariant-actions l = StaysJudged l.all l.t (stands_of l.stands) (take l.index (actions_of l.actions)) l.initial.judged l.judged
