use Rattle.std.proofs.Common.{◌<◌, ◌≤◌, sym, subst}
use Rattle.std.proofs.lemmas.Option.{get_or_from_slice_get}
use Rattle.sl_decode_leaves.specs.Joined.{all_leaves}
use Rattle.sl_decode_plan.proofs.SettledLemmas.{all_added, none_added, one_added}
use Rattle.sl_decode_plan.proofs.settled.add_unsettled.Goals as goal

pub used-init : goal.used-init
used-init c = none_added c.args.t.now (all_leaves c.args.patterns.now) c.args.all.now

pub used-preserved : goal.used-preserved
used-preserved c =
    let used = c.args.used.now in
    let i = c.used.index in
    let x = c.member.result.now in
    one_added c.args.t.now (all_leaves c.args.patterns.now) used c.args.all.now c.used.all c.add_name.new.all i x (subst (λ n. i < n) c.len-index-end.ensures c.used-test.true)
    (sym (get_or_from_slice_get used i x x c.member.ensures)) c.in_ok-add_name.ensures c.used.invariant

pub returns : goal.returns
returns c =
    all_added c.args.t.now (all_leaves c.args.patterns.now) c.args.used.now c.args.all.now c.used.all c.used.index
    (subst (λ n. n ≤ c.used.index) c.len-index-end.ensures c.used-test.false) c.used.invariant
