use Rattle.std.proofs.Common.{List, subst}
use Rattle.sl_decode_leaves.specs.Joined.{all_leaves}
use Rattle.std.specs.Option.{option_copied}
use Rattle.sl_decode_plan.specs.Open.{unsettled_of}
use Rattle.sl_decode_plan.specs.Settled.{AddsUnsettled}
use Rattle.sl_decode_plan.specs.declared.uses.Used.{Used}
use Rattle.sl_decode_plan.proofs.SettledLemmas.{both_added}
use Rattle.sl_decode_plan.proofs.open_blocks.unsettled_in.Goals as goal

pub returns : goal.returns
returns c =
    let t = c.args.t.now in
    let front = all_leaves c.args.patterns.now in
    let outer = unsettled_of (option_copied c.args.outer) in
    both_added t front outer c.args.used.now c.add_outer.new.all c.add_unsettled.new.all
    (subst (λ (xs : List Used). AddsUnsettled t front outer xs c.add_outer.new.all) c.new-all.ensures c.in_ok-add_outer.ensures) c.in_ok-add_unsettled.ensures
