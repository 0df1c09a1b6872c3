use Rattle.std.proofs.Common.{◌≡◌, drop}
use Rattle.sl_explain_names.specs.ItemView.{item}
use Rattle.sl_explain_patterns.specs.Findings.{never_in}
use Rattle.sl_explain_patterns.proofs.findings.never_in.Given as goal

-- the first of the places that are left is the first of all
abbrev pub invariant-places : goal.invariant-places
invariant-places l = never_in (item l.i) (drop l.at l.i.places.items) ≡ never_in (item l.i) l.i.places.items
