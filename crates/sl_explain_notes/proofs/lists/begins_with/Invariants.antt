use Rattle.std.proofs.Common.{◌≡◌, drop}
use Rattle.sl_explain_notes.specs.Lists.{begins_with, has_from}
use Rattle.sl_lex.specs.Views.{views}
use Rattle.sl_explain_notes.proofs.lists.begins_with.Given as goal

-- the list has the members that are left from here on where it has all from its beginning on
abbrev pub invariant-members : goal.invariant-members
invariant-members l = has_from (views l.list) l.at (views (drop l.at l.part)) ≡ begins_with (views l.list) (views l.part)
