use Rattle.std.proofs.Common.{◌≡◌, ◌++◌, drop}
use Rattle.sl_explain_notes.specs.Lists.{short_lists}
use Rattle.sl_lex.specs.Views.{views}
use Rattle.sl_explain_notes.proofs.lists.push_short_lists.Given as goal

-- what was told so far and what is told of the tokens that are left is all
abbrev pub invariant-mentions : goal.invariant-mentions
invariant-mentions l =
    l.out.items ++ short_lists (views l.tokens) l.names (drop l.at l.names)
    ≡ l.initial.out.items ++ short_lists (views l.tokens) l.names l.names
