-- step: where a section is read, as the program keeps it.
use Rattle.sl_explain_names.specs.ItemView.{item}
use Rattle.sl_explain_sizes.specs.Widths as spec
use Rattle.sl_explain_sizes.specs.declared.widths.Scope.{Scope}

abbrev pub scope : Scope → spec.Scope
scope s = record { item = item s.item.now; known = s.known.now }
