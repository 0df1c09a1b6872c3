use Rattle.std.proofs.Common.{ℕ, List, ap}
use Rattle.sl_explain_notes.specs.Uses.{used_from}
use Rattle.sl_lex.specs.Views.{views}
use Rattle.sl_lex.specs.declared.mode.Mode.TheVariants as mode
use Rattle.sl_explain_notes.proofs.uses.used.Goals as goal

pub tokens-init : goal.tokens-init
tokens-init c =
    ap (λ (names : List (List ℕ)). used_from (views c.args.tokens.now) mode.Top 0 names (views c.args.tokens.now)) c.in_ok-names.ensures
