use Rattle.std.proofs.Common.{List, refl, ap, subst}
use Rattle.std.specs.Option.{option_copied}
use Rattle.sl_ast.specs.Trees.{Action}
use Rattle.sl_ast.specs.Views.{head_of}
use Rattle.sl_decode_leaves.specs.Joined.{all_leaves}
use Rattle.sl_decode_leaves.specs.declared.pattern_leaves.PatternLeaves.{PatternLeaves}
use Rattle.sl_decode_plan.specs.Open.{unsettled_of}
use Rattle.sl_decode_plan.specs.Rights.{AreSteps}
use Rattle.sl_decode_plan.specs.declared.open_blocks.OpenBlock.{OpenBlock}
use Rattle.sl_decode_plan.proofs.OpenLemmas.{opened_right}
use Rattle.sl_decode_plan.proofs.open_blocks.opened.Goals as goal

pub returns : goal.returns
returns c =
    let t = c.args.t.now in
    let os = c.args.operands.now in
    let ls = c.args.leaves.now in
    let head = head_of c.args.around.head.now in
    let steps = c.in_ok-steps.steps in
    let outer = unsettled_of (option_copied c.args.outer) in
    let before = c.in_ok-used.ensures.before in
    let x : OpenBlock = record { number = c.args.around.number; leaves = c.in_ok-kept.kept; steps = steps; unsettled = c.in_ok-unsettled.unsettled } in
    record {
      number = refl;
      leaves = ap (λ (p : PatternLeaves). p.leaves.items) c.in_ok-kept.ensures.cases;
      steps = subst (λ (as' : List Action). AreSteps t os ls as' steps) c.actions_in-actions.ensures c.in_ok-steps.ensures;
      unsettled = (c.in_ok-unsettled.ensures os ls c.requires.inside c.requires.unsettled before).0;
      right = opened_right t os ls (all_leaves c.args.patterns.now) head c.actions_in-actions.result.now steps outer c.in_ok-used.used x c.actions_in-actions.ensures refl
          c.in_ok-steps.ensures c.requires.inside c.requires.unsettled before c.in_ok-used.ensures.uses c.in_ok-unsettled.ensures;
    }
