use Rattle.std.proofs.Common.{List, ◌++◌, map, refl, sym, ap, ◌∙◌}
use Rattle.sl_ast.specs.Unfolding.{written}
use Rattle.sl_decode_meaning.specs.Meanings.{said}
use Rattle.sl_decode_leaves.specs.Blocks.{AreLeavesOfHead}
use Rattle.sl_decode_plan.specs.Plans.{done}
use Rattle.sl_decode_plan.specs.declared.plans.Plan.{Plan}
use Rattle.sl_decode_leaves.proofs.MadeLemmas.{keeps_of, made_for, none_of}
use Rattle.sl_decode_plan.proofs.OpenLemmas.{begun_anyway, right_among, stays_among}
use Rattle.sl_spec.specs.Tables.{Ctor, Operand}
use Rattle.sl_spec.specs.Unfolded.{all_placed, placed}
use Rattle.sl_decode_plan.proofs.PlanLemmas.{all_made, all_said, out_of_constructors, out_of_written, plan_next}
use Rattle.sl_decode_plan.proofs.plans.make_plans.Goals as goal

pub constructors-init : goal.constructors-init
constructors-init c =
    let t = c.args.t.now in
    let us = c.args.constructors.now in (
      ap (λ (ps : List Plan). map (done t) ps ++ all_said t t.constructors (all_placed us)) c.new-all.ensures.items,
      none_of (AreLeavesOfHead t) us c.new-made.result c.new-made.ensures c.requires,
      begun_anyway t us c.new-around.result c.new-around.ensures c.requires,
    )

pub plan_among-requires-clause-leaves : goal.plan_among-requires-clause-leaves
plan_among-requires-clause-leaves c =
    made_for (AreLeavesOfHead c.args.t.now) c.args.constructors.now c.constructors.index c.index-constructors-index.result c.constructors-test.true c.index-constructors-index.is
    c.constructors.made c.constructors.invariant.1

pub plan_among-requires-clause-around : goal.plan_among-requires-clause-around
plan_among-requires-clause-around c =
    right_among c.args.t.now c.args.constructors.now c.constructors.index c.index-constructors-index.result c.constructors-test.true c.index-constructors-index.is
    c.constructors.around c.constructors.invariant.2

pub constructors-preserved : goal.constructors-preserved
constructors-preserved c =
    let t = c.args.t.now in
    let us = c.args.constructors.now in
    let u = c.index-constructors-index.result in
    let same = c.as_slice-operands.ensures.value ∙ ap (λ (x : Ctor). x.operands) c.ctor.view_is in
    let does = c.in_ok-plan.ensures.plan ∙ ap (λ (os : List Operand). said t os (placed u).1.pattern (written (placed u).1.actions)) same in (
      plan_next t t.constructors us c.constructors.index c.constructors.all.items c.in-Some.ctor.now u c.in_ok-plan.plan
          c.push.new.self.items (sym c.in-Some.ensures) c.constructors-test.true c.index-constructors-index.is c.in_ok-push.ensures.items does c.constructors.invariant.0,
      keeps_of (AreLeavesOfHead t) us c.constructors.index u c.constructors-test.true c.index-constructors-index.is c.constructors.made c.plan_among.new.made c.in_ok-plan.ensures.leaves c.constructors.invariant.1,
      stays_among t us c.constructors.index u c.constructors-test.true c.index-constructors-index.is c.constructors.around c.plan_among.new.around c.in_ok-plan.ensures.around c.constructors.invariant.2,
    )

pub returns-in_default : goal.returns-in_default
returns-in_default c =
    let t = c.args.t.now in
    let us = c.args.constructors.now in
    all_made t t.constructors us c.constructors.index c.constructors.all.items refl c.constructors.invariant.0
    (out_of_constructors t t.constructors us c.constructors.index c.constructors.all.items (sym c.in_default.ensures))

pub returns : goal.returns
returns c =
    let t = c.args.t.now in
    let us = c.args.constructors.now in
    all_made t t.constructors us c.constructors.index c.constructors.all.items refl c.constructors.invariant.0
    (out_of_written t t.constructors us c.constructors.index c.constructors.all.items c.constructors-test.false)
