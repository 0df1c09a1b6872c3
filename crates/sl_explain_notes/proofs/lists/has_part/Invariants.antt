use Rattle.std.proofs.Common.{◌≡◌, drop}
use Rattle.sl_explain_notes.specs.Lists.{has_part}
use Rattle.sl_lex.specs.Views.{views}
use Rattle.sl_explain_notes.proofs.lists.has_part.Given as goal

-- what is left of the list has the members where the whole does
abbrev pub invariant-members : goal.invariant-members
invariant-members l = has_part (views (drop l.at l.list)) (views l.part) ≡ has_part (views l.list) (views l.part)
