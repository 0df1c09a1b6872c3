use Rattle.std.proofs.Common.{map, refl}
use Rattle.std.proofs.lemmas.Result.{err_from_is_err_and}
use Rattle.sl_bind.proofs.ItemLemmas.{run_stops_at}
use Rattle.sl_bind.proofs.MadeLemmas.{made_behind_one, made_for_one, none_made, right_behind}
use Rattle.sl_bind.specs.Steps.{constructor_item}
use Rattle.sl_bind.specs.Verdict.{placed_step}
use Rattle.sl_spec_rules.proofs.Runs.{run_ends, run_goes}
use Rattle.sl_spec_rules.proofs.Seen.{below_map, past_map, seen_map}
use Rattle.sl_spec.specs.Unfolded.{placed}
use Rattle.sl_bind.proofs.items.take_constructors.Goals as goal

pub constructors-init : goal.constructors-init
constructors-init c = (refl, none_made c.args.whole.now.tables c.args.progress.now.known.tables c.args.all.now _ c.new-made.ensures c.requires)

pub take_constructor-requires : goal.take_constructor-requires
take_constructor-requires c =
    made_for_one c.args.whole.now.tables c.constructors.progress.known.tables c.args.all.now c.constructors.index c.index-all-index.result c.constructors-test.true c.index-all-index.is
    c.constructors.made c.constructors.invariant.1

pub returns-in_err-take_constructor : goal.returns-in_err-take_constructor
returns-in_err-take_constructor c =
    let p = err_from_is_err_and c.from_residual.result c.from_residual.ensures.1 in
    let all = c.args.all.now in
    let i = c.constructors.index in
    rw (p.1, p.2) (run_stops_at (placed_step c.args.whole.now) c.args.progress.now (map constructor_item all) c.in_err-take_constructor.field-0.0 c.constructors.progress i
    (constructor_item c.index-all-index.result) (below_map constructor_item all i c.constructors-test.true)
    (seen_map constructor_item all i c.index-all-index.result c.constructors-test.true c.index-all-index.is) c.in_err-take_constructor.ensures.gives c.constructors.invariant.0)

pub constructors-preserved : goal.constructors-preserved
constructors-preserved c =
    let all = c.args.all.now in
    let i = c.constructors.index in
    let u = c.index-all-index.result in
    let w = c.args.whole.now in
    let before = c.constructors.progress in
    let below = c.constructors-test.true in
    let is = c.in_ok-take_constructor.ensures.gives in
    let made = made_behind_one w.tables before.known.tables all i u below c.index-all-index.is c.constructors.made c.take_constructor.new.made c.in_ok-take_constructor.ensures.kept c.constructors.invariant.1 in (
      run_goes (placed_step w) c.args.progress.now (map constructor_item all) before c.take_constructor.new.progress i
          (constructor_item u) (below_map constructor_item all i below)
          (seen_map constructor_item all i u below c.index-all-index.is) is c.constructors.invariant.0,
      right_behind w before c.take_constructor.new.progress (placed u).0 (placed u).1 all c.take_constructor.new.made is made,
    )

pub returns : goal.returns
returns c =
    let all = c.args.all.now in
    run_ends (placed_step c.args.whole.now) c.args.progress.now (map constructor_item all) c.constructors.progress c.constructors.index
    (past_map constructor_item all c.constructors.index c.constructors-test.false) c.constructors.invariant.0
