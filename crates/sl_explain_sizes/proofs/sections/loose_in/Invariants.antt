use Rattle.std.proofs.Common.{◌≡◌, drop}
use Rattle.sl_explain_names.specs.ItemView.{item}
use Rattle.sl_explain_sizes.specs.ScopeView.{scope}
use Rattle.sl_explain_sizes.specs.Sections.{loose_in}
use Rattle.sl_explain_sizes.proofs.sections.loose_in.Given as goal

-- the first of the places that are left is the first of all
abbrev pub invariant-places : goal.invariant-places
invariant-places l =
    loose_in (item l.i) (scope l.s) (drop l.at l.i.places.items) ≡ loose_in (item l.i) (scope l.s) l.i.places.items
