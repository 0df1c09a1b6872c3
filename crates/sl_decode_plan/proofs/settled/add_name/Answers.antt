use Rattle.std.proofs.Common.{sym, ◌∙◌}
use Rattle.sl_decode_leaves.specs.Joined.{all_leaves}
use Rattle.sl_decode_plan.proofs.SettledLemmas.{settled_added, there_added, unsettled_added}
use Rattle.sl_decode_plan.proofs.settled.add_name.Goals as goal

pub returns-then-is_settled : goal.returns-then-is_settled
returns-then-is_settled c =
    settled_added c.args.t.now (all_leaves c.args.patterns.now) c.args.x.now c.args.all.now (c.is_settled.ensures c.if-is_settled.true)

pub returns-then-has : goal.returns-then-has
returns-then-has c = there_added c.args.t.now (all_leaves c.args.patterns.now) c.args.x.now c.args.all.now (sym c.has.ensures ∙ c.if-has.true)

pub returns : goal.returns
returns c =
    unsettled_added c.args.t.now (all_leaves c.args.patterns.now) c.args.x.now c.in_ok-left.left c.args.all.now c.add.new.self c.in_ok-add.ensures.added
    c.in_ok-left.ensures.name c.in_ok-left.ensures.kind c.in_ok-left.ensures.place
