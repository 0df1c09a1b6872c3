use Rattle.std.proofs.Common.{◌≡◌, ◌≤◌, drop}
use Rattle.sl_explain_names.specs.Brackets.{side_after}
use Rattle.sl_explain_names.specs.declared.brackets.Side.TheVariants.{Beside}
use Rattle.sl_lex.specs.Views.{views}
use Rattle.sl_explain_names.proofs.brackets.side_after.Given as goal

-- what is left tells what all tokens do; there are no more open brackets than tokens
abbrev pub invariant-tokens : goal.invariant-tokens
invariant-tokens l =
    (side_after l.level l.side (views (drop l.token-index l.tokens)) ≡ side_after 0 Beside (views l.tokens))
    × (l.level ≤ l.token-index)
