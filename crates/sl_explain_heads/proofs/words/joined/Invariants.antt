use Rattle.std.proofs.Common.{◌≡◌, ◌++◌, drop, option_map}
use Rattle.sl_explain_heads.specs.Words.{joined, joined_after}
use Rattle.sl_lex.specs.Views.{view, views}
use Rattle.sl_explain_heads.proofs.words.joined.Given as goal

-- the words so far and those of what is left are all words
abbrev pub invariant-tokens : goal.invariant-tokens
invariant-tokens l =
    l.out.items ++ joined_after (option_map view l.last) (views (drop l.token-index l.tokens)) ≡ joined (views l.tokens)
