use Rattle.std.proofs.Common.{false, ap, sym, ◌∙◌, ◌&&◌}
use Rattle.std.specs.Prelude.{◌==◌}
use Rattle.std.specs.List.{list_all}
use Rattle.sl_spec_actions.specs.Pending.{Pending, all_stand}
use Rattle.sl_spec_actions.proofs.PendingLemmas.{none_left}
use Rattle.sl_spec_actions.proofs.blocks.holds_alone.Goals as goal

pub returns-then-rule : goal.returns-then-rule
returns-then-rule c =
    ap (λ n. n == 0) c.len.ensures ∙ none_left c.rule.inside.names ∙ ap (λ b. b && list_all (λ n. false) c.rule.inside.names) (sym c.if-rule.true)
    ∙ ap (λ (p : Pending). all_stand p (λ n. false)) c.rule.view_is
