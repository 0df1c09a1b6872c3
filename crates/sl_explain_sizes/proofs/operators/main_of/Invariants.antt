use Rattle.std.proofs.Common.{◌≡◌, drop}
use Rattle.sl_explain_sizes.specs.Operators.{beginning, scan_from}
use Rattle.sl_lex.specs.Views.{views}
use Rattle.sl_explain_sizes.proofs.operators.main_of.Given as goal

-- what is left leads to what all tokens lead to
abbrev pub invariant-tokens : goal.invariant-tokens
invariant-tokens l =
    scan_from (views l.tokens) l.at l.scan (views (drop l.at l.tokens)) ≡ scan_from (views l.tokens) 0 beginning (views l.tokens)
