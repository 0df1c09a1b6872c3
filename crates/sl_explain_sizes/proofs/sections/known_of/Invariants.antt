use Rattle.std.proofs.Common.{◌≡◌, drop}
use Rattle.sl_explain_names.specs.ItemView.{item}
use Rattle.sl_explain_sizes.specs.Sections.{known_from}
use Rattle.sl_explain_sizes.proofs.sections.known_of.Given as goal

-- what is known so far and the places that are left lead to what is known in the end
abbrev pub invariant-places : goal.invariant-places
invariant-places l =
    known_from (item l.i) l.known.items (drop l.at l.i.places.items) ≡ known_from (item l.i) l.given l.i.places.items
