use Rattle.std.proofs.Common.{◌≡◌, ◌++◌, drop, take}
use Rattle.sl_explain_heads.specs.Heads.{display_part}
use Rattle.sl_lex.specs.Views.{views}
use Rattle.sl_explain_heads.proofs.heads.display_part.Given as goal

-- the tokens so far belong to the part
abbrev pub invariant-tokens : goal.invariant-tokens
invariant-tokens l =
    views (take l.index l.tokens) ++ display_part (views (drop l.index l.tokens)) ≡ display_part (views l.tokens)
