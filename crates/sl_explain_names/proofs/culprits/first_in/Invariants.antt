use Rattle.std.proofs.Common.{◌≡◌, drop}
use Rattle.sl_explain_names.specs.Culprits.{first_in}
use Rattle.sl_explain_names.specs.ItemView.{item}
use Rattle.sl_explain_names.proofs.culprits.first_in.Given as goal

-- the first of the places that are left is the first of all
abbrev pub invariant-places : goal.invariant-places
invariant-places l =
    first_in (item l.i) l.test (drop l.at l.i.places.items) ≡ first_in (item l.i) l.test l.i.places.items
