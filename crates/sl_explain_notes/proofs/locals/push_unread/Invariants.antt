use Rattle.std.proofs.Common.{◌≡◌, ◌++◌, drop}
use Rattle.sl_explain_names.specs.ItemView.{item}
use Rattle.sl_explain_notes.specs.Locals.{unread_at}
use Rattle.sl_explain_notes.proofs.locals.push_unread.Given as goal

-- what was told so far and what is told of the places that are left is all
abbrev pub invariant-places : goal.invariant-places
invariant-places l =
    l.out.items ++ unread_at (item l.i) (drop l.at l.i.places.items)
    ≡ l.initial.out.items ++ unread_at (item l.i) l.i.places.items
