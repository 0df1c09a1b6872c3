use Rattle.std.proofs.Common.{◌≡◌, drop}
use Rattle.sl_explain_names.specs.ItemView.{item}
use Rattle.sl_explain_patterns.specs.Findings.{joined_in}
use Rattle.sl_explain_patterns.specs.declared.findings.Chain.TheVariants.{Empty}
use Rattle.sl_explain_patterns.proofs.findings.joined_in.Given as goal

-- the first of the places that are left is the first of all
abbrev pub invariant-places : goal.invariant-places
invariant-places l = joined_in (item l.i) l.chain (drop l.at l.i.places.items) ≡ joined_in (item l.i) Empty l.i.places.items
