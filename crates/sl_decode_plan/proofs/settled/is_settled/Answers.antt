use Rattle.std.proofs.Common.{sym, ◌∙◌}
use Rattle.sl_decode_leaves.specs.Joined.{all_leaves}
use Rattle.sl_decode_plan.proofs.SettledLemmas.{settled_anywhere, settled_there}
use Rattle.sl_decode_plan.proofs.settled.is_settled.Goals as goal

pub returns-then-not-is_in_token : goal.returns-then-not-is_in_token
returns-then-not-is_in_token c = λ settled.
    settled_anywhere c.args.t.now (all_leaves c.args.patterns.now) c.args.name.now c.in-Some.index (sym c.in-Some.ensures) (c.is_in_token.ensures c.if-not-is_in_token.true)

pub returns-else-not-is_in_token : goal.returns-else-not-is_in_token
returns-else-not-is_in_token c = λ some.
    settled_there c.args.t.now (all_leaves c.args.patterns.now) c.args.name.now c.in-Some.index (sym c.in-Some.ensures) c.first_in.result (sym c.is_some.ensures ∙ some) c.first_in.ensures
