use Rattle.std.proofs.Common.{List, sym, subst}
use Rattle.std.specs.Option.{IfSome}
use Rattle.sl_ast.specs.Unfolding.{written}
use Rattle.sl_ast.specs.Views.{constructor_of, head_of}
use Rattle.sl_decode_plan.specs.Open.{AreStepsOf}
use Rattle.sl_decode_plan.specs.Rights.{AreAllSteps, AreSteps}
use Rattle.sl_decode_plan.proofs.OpenLemmas.{steps_at}
use Rattle.sl_decode_plan.proofs.StepLemmas.{at_first, at_last, one_block}
use Rattle.sl_spec.specs.Unfolded.{heads_of, under}
use Rattle.sl_spec.specs.declared.unfolded.Around.{Around}
use Rattle.sl_decode_plan.proofs.action_steps.steps_of.Goals as goal

pub heads-init : goal.heads-init
heads-init c =
    at_first c.args.t.now c.args.operands.now c.args.leaves.now (constructor_of c.args.of.now.own.now) c.as_slice-heads.result.now c.new-all.result c.new-all.ensures.early c.new-all.ensures.late

pub add_block-requires : goal.add_block-requires
add_block-requires c =
    let t = c.args.t.now in
    let os = c.args.operands.now in
    let ls = c.args.leaves.now in
    let heads = c.as_slice-heads.result.now in
    let a = c.index-heads-index.result in
    let made = subst (λ (as' : List Around). AreStepsOf t os ls c.args.made.now as') (sym c.as_slice-heads.ensures.value) c.requires in
    subst (λ o. IfSome o (λ x. AreSteps t os ls (written (head_of a.head.now).actions) x.steps)) (sym c.block_at.ensures)
    (steps_at t os ls c.args.made.now heads c.heads.index a c.heads-test.true c.index-heads-index.is made)

pub heads-preserved : goal.heads-preserved
heads-preserved c =
    one_block c.args.t.now c.args.operands.now c.args.leaves.now (constructor_of c.args.of.now.own.now) c.as_slice-heads.result.now c.heads.index c.index-heads-index.result
    c.heads.all c.add_block.new.all c.heads-test.true c.index-heads-index.is c.in_ok-add_block.ensures c.heads.invariant

pub returns : goal.returns
returns c =
    let t = c.args.t.now in
    let os = c.args.operands.now in
    let ls = c.args.leaves.now in
    let own = constructor_of c.args.of.now.own.now in
    subst (λ (as' : List Around). AreAllSteps t os ls (written (under (heads_of as') own).actions) c.add_own.new.all) c.as_slice-heads.ensures.value
    (at_last t os ls own c.as_slice-heads.result.now c.heads.index c.heads.all c.add_own.new.all c.heads-test.false c.in_ok-add_own.ensures c.heads.invariant)
