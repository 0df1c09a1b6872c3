use Rattle.std.proofs.Common.{◌≡◌, drop}
use Rattle.sl_explain_exports.specs.Findings.{parts_in}
use Rattle.sl_explain_names.specs.ItemView.{item}
use Rattle.sl_explain_exports.proofs.findings.parts_in.Given as goal

-- the first of the places that are left is the first of all
abbrev pub invariant-places : goal.invariant-places
invariant-places l = parts_in (item l.i) (drop l.at l.i.places.items) ≡ parts_in (item l.i) l.i.places.items
