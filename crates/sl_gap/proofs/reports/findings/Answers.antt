use Rattle.std.proofs.Common.{ℕ, ◌<◌, ◌≤◌, length, refl, sym, subst, arith}
use Rattle.std.proofs.lemmas.Option.{slice_get_read}
use Rattle.sl_gap.proofs.GapLemmas.{found_more, found_out, is_at, past_all}
use Rattle.sl_gap.specs.Findings.{IsAt, TellsFinding}
use Rattle.sl_spec.specs.Unfolded.{all_placed, placed}
use Rattle.sl_gap.proofs.reports.findings.Goals as goal

pub constructors-preserved : goal.constructors-preserved
constructors-preserved c =
    let t = c.args.t.now in
    let us = c.args.constructors.now in
    let plans = c.args.plans.now in
    let i = c.constructors.index in
    let u = c.index-constructors-index.result in
    let plan = c.in-Some-get.plan.now in
    let below : c.constructors.index < length c.args.constructors.now = omega arith in
    let u_is = slice_get_read us (length us) i u refl below c.index-constructors-index.is in
    let plan_is = slice_get_read plans (length plans) i plan refl c.in-Some-get.ensures.lookup.3.0 c.in-Some-get.ensures.lookup.1 in
    let at = is_at t us plans i c.in-Some.ctor.now u plan c.requires.plans (sym c.in-Some.ensures) u_is plan_is in
    λ are.
    let here = subst (λ (n : ℕ). IsAt t (all_placed us) n c.in-Some.ctor.now (placed u) plan) (sym c.in_ok-number.ensures) at in
    let told = subst (λ (n : ℕ). TellsFinding t (all_placed us) n c.in-Some.ctor.now c.in_ok-found.found) c.in_ok-number.ensures
    (c.in_ok-found.ensures (all_placed us) are here) in
    found_more t (all_placed us) c.constructors.all.holes.items c.constructors.all.plain i c.in-Some.ctor.now c.in_ok-found.found at.ctor_is told (c.constructors.invariant are)
    c.add.new.self.holes.items c.add.new.self.plain c.in_ok-add.ensures.holes c.in_ok-add.ensures.plain

pub returns : goal.returns
returns c = λ are.
    let past : length c.args.constructors.now ≤ c.constructors.index = omega arith in
    found_out c.args.t.now (all_placed c.args.constructors.now) c.constructors.all c.constructors.index
    (past_all c.args.t.now c.args.constructors.now c.constructors.index are.listed.counted past) (c.constructors.invariant are)
