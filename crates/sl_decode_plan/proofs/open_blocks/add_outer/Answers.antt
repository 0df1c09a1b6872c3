use Rattle.std.proofs.Common.{subst, sym}
use Rattle.std.specs.Prelude.{OnOk, option_copied}
use Rattle.sl_decode_leaves.specs.Joined.{all_leaves}
use Rattle.sl_decode_plan.specs.Open.{unsettled_of}
use Rattle.sl_decode_plan.specs.Settled.{AddsUnsettled}
use Rattle.sl_decode_plan.proofs.open_blocks.add_outer.Goals as goal

pub returns-in-Some : goal.returns-in-Some
returns-in-Some c =
    let front = all_leaves c.args.patterns.now in
    subst (λ o. OnOk c.add_unsettled.result (AddsUnsettled c.args.t.now front (unsettled_of (option_copied o)) c.args.all.now c.add_unsettled.new.all)) (sym c.in-Some.is)
    c.add_unsettled.ensures
