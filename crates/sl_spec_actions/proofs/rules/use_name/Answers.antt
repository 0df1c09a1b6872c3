use Rattle.std.proofs.Common.{ap, sym, ◌∙◌, ◌&&◌}
use Rattle.sl_spec_actions.specs.ActionNames.{is_token_field}
use Rattle.sl_spec_actions.specs.ActionRules.{is_usable}
use Rattle.sl_spec_actions.specs.Pending.{all_stand}
use Rattle.sl_spec_actions.specs.JoinedStanding.{joined}
use Rattle.sl_spec_actions.specs.Stands.{stands_of}
use Rattle.sl_spec_actions.proofs.PendingLemmas.{hangs}
use Rattle.sl_spec_actions.proofs.UseLemmas.{may_by, usable_with}
use Rattle.sl_spec_actions.proofs.rules.use_name.Goals as goal

pub returns-in_ok-hang_on : goal.returns-in_ok-hang_on
returns-in_ok-hang_on c = λ inside.
    let t = c.args.t.now in
    let s = stands_of c.args.stands.now in
    let before = c.args.before.now in
    let n = c.args.name.now in
    let f = inside.anywhere in
    let known = c.args.known.now in
    ap (λ p. all_stand p f) c.in_ok-hang_on.ensures ∙ hangs known n f
    ∙ ap (λ b. all_stand known f && b) (sym (may_by (is_usable t (joined s inside) before n) (is_usable t s before n) (is_token_field t n) (f n) (usable_with t s inside before n)
    (sym c.is_usable.ensures ∙ c.if-is_usable.false) (sym c.is_token_field.ensures ∙ c.if-is_token_field.true)))
