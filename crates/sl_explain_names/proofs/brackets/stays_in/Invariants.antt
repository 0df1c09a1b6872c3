use Rattle.std.proofs.Common.{◌≡◌, ◌≤◌, drop}
use Rattle.sl_explain_names.specs.Brackets.{stays_in}
use Rattle.sl_lex.specs.Views.{views}
use Rattle.sl_explain_names.proofs.brackets.stays_in.Given as goal

-- what is left tells what all tokens do; there are no more open brackets than tokens
abbrev pub invariant-tokens : goal.invariant-tokens
invariant-tokens l =
    (stays_in l.level (views (drop l.token-index l.tokens)) ≡ stays_in 0 (views l.tokens))
    × (l.level ≤ l.token-index)
