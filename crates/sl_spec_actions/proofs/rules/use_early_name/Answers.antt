use Rattle.std.proofs.Common.{ap, sym, ◌∙◌, ◌&&◌, not}
use Rattle.sl_spec_actions.specs.Pending.{none_stands}
use Rattle.sl_spec_actions.specs.Stands.{stands_of}
use Rattle.sl_spec_actions.proofs.PendingLemmas.{hangs_early}
use Rattle.sl_spec_actions.proofs.UseLemmas.{early_with}
use Rattle.sl_spec_actions.proofs.rules.use_early_name.Goals as goal

pub returns-in_ok-hang_on : goal.returns-in_ok-hang_on
returns-in_ok-hang_on c = λ inside.
    let n = c.args.name.now in
    let f = inside.behind_table in
    let early = c.args.early.now in
    ap (λ p. none_stands p f) c.in_ok-hang_on.ensures ∙ hangs_early early n f
    ∙ ap (λ b. none_stands early f && b)
    (sym (early_with (stands_of c.args.stands.now) inside c.args.before.now n ∙ ap (λ b. b && not (f n)) (sym c.is_early.ensures ∙ c.if-is_early.true)))
