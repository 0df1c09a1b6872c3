use Rattle.std.proofs.Common.{◌≡◌, ◌≤◌, ◌+◌, drop}
use Rattle.sl_explain_sizes.specs.Slices.{outside_from}
use Rattle.sl_lex.specs.Views.{views}
use Rattle.sl_explain_sizes.proofs.slices.outside.Given as goal

-- the tokens so far and those that are left before one are all before it; there are no more open brackets than tokens
abbrev pub invariant-tokens : goal.invariant-tokens
invariant-tokens l =
    (l.at + outside_from l.stop l.level (views (drop l.at l.tokens)) ≡ outside_from l.stop 0 (views l.tokens))
    × (l.level ≤ l.at)
