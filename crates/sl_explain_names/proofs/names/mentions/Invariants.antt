use Rattle.std.proofs.Common.{◌≡◌, ◌++◌, drop}
use Rattle.sl_explain_heads.specs.Modes.{mode_view}
use Rattle.sl_explain_names.specs.Names.{mentions, mentions_from}
use Rattle.sl_lex.specs.Views.{views}
use Rattle.sl_explain_names.proofs.names.mentions.Given as goal

-- what was found so far and what is found from here on is all
abbrev pub invariant-tokens : goal.invariant-tokens
invariant-tokens l =
    l.out.items ++ mentions_from (views l.tokens) (mode_view l.mode) l.head l.at (views (drop l.at l.tokens))
    ≡ mentions (views l.tokens)
