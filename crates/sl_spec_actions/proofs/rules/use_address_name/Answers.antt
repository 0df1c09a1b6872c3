use Rattle.std.proofs.Common.{ap, sym, ◌∙◌, ◌&&◌}
use Rattle.sl_ast.specs.Trees.{by_name}
use Rattle.sl_spec_actions.specs.ActionNames.{is_token_field}
use Rattle.sl_spec_actions.specs.ActionRules.{is_address}
use Rattle.sl_spec_actions.specs.Pending.{all_stand}
use Rattle.sl_spec_actions.specs.JoinedStanding.{joined}
use Rattle.sl_spec_actions.specs.Stands.{stands_of}
use Rattle.sl_spec_actions.proofs.PendingLemmas.{hangs}
use Rattle.sl_spec_actions.proofs.UseLemmas.{address_with, may_by}
use Rattle.sl_spec_actions.proofs.rules.use_address_name.Goals as goal

pub returns-in_ok-hang_on : goal.returns-in_ok-hang_on
returns-in_ok-hang_on c = λ inside.
    let t = c.args.t.now in
    let s = stands_of c.args.stands.now in
    let before = c.args.before.now in
    let n = c.args.name.now in
    let f = inside.bare in
    let address = c.args.address.now in
    ap (λ p. all_stand p f) c.in_ok-hang_on.ensures ∙ hangs address n f
    ∙ ap (λ b. all_stand address f && b) (sym (may_by (is_address t (joined s inside) before (by_name n)) (is_address t s before (by_name n)) (is_token_field t n) (f n)
    (address_with t s inside before n) (sym c.is_address.ensures ∙ c.if-is_address.false) (sym c.is_token_field.ensures ∙ c.if-is_token_field.true)))
