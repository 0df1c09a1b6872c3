use Rattle.std.proofs.Common.{◌≡◌, ◌≤◌, drop}
use Rattle.sl_explain_names.specs.Sections.{depths}
use Rattle.sl_lex.specs.Views.{views}
use Rattle.sl_explain_names.proofs.sections.depths.Given as goal

-- what is left tells what all tokens do; there are no more open brackets than tokens
abbrev pub invariant-tokens : goal.invariant-tokens
invariant-tokens l =
    (depths l.depth (views (drop l.token-index l.tokens)) ≡ depths 0 (views l.tokens))
    × (l.depth ≤ l.token-index)
