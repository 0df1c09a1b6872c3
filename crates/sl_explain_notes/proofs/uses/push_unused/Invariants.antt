use Rattle.std.proofs.Common.{◌≡◌, ◌++◌, drop}
use Rattle.sl_explain_notes.specs.Uses.{unused, unused_from}
use Rattle.sl_lex.specs.Views.{views}
use Rattle.sl_explain_notes.proofs.uses.push_unused.Given as goal

-- what was told so far and what is told of the tokens that are left is all
abbrev pub invariant-mentions : goal.invariant-mentions
invariant-mentions l =
    l.out.items ++ unused_from (views l.tokens) l.names (drop l.at l.mentions)
    ≡ l.initial.out.items ++ unused (views l.tokens) l.mentions
