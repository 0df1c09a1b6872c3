use Rattle.std.proofs.Common.{◌≡◌, drop}
use Rattle.sl_explain_exports.specs.ConstructorView.{constructors}
use Rattle.sl_explain_exports.specs.Findings.{used_in}
use Rattle.sl_explain_names.specs.ItemView.{item}
use Rattle.sl_explain_exports.proofs.findings.used_in.Given as goal

-- the first of the places that are left is the first of all
abbrev pub invariant-places : goal.invariant-places
invariant-places l =
    used_in (item l.i) (constructors l.all) (drop l.at l.i.places.items)
    ≡ used_in (item l.i) (constructors l.all) l.i.places.items
