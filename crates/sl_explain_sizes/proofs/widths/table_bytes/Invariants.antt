use Rattle.std.proofs.Common.{◌≡◌, drop}
use Rattle.sl_explain_names.specs.ItemView.{item}
use Rattle.sl_explain_sizes.specs.Widths.{table_bytes}
use Rattle.sl_explain_sizes.proofs.widths.table_bytes.Given as goal

-- the tokens that are left tell what all do
abbrev pub invariant-names : goal.invariant-names
invariant-names l = table_bytes (item l.i) l.table (drop l.at l.i.names.items) ≡ table_bytes (item l.i) l.table l.i.names.items
