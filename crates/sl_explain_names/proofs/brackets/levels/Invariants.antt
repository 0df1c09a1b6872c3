use Rattle.std.proofs.Common.{◌≡◌, ◌≤◌, drop}
use Rattle.sl_explain_names.specs.Brackets.{levels}
use Rattle.sl_lex.specs.Views.{views}
use Rattle.sl_explain_names.proofs.brackets.levels.Given as goal

-- what is left tells what all tokens do; there are no more open brackets than tokens
abbrev pub invariant-tokens : goal.invariant-tokens
invariant-tokens l =
    (levels l.level (views (drop l.token-index l.tokens)) ≡ levels 0 (views l.tokens))
    × (l.level ≤ l.token-index)
