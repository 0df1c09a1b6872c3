use Rattle.std.proofs.Common.{◌≡◌, [], ◌++◌, replicate}
use Rattle.sl_spec_tables.specs.Views.{groups_of}
use Rattle.sl_spec_tables.proofs.rows.add_empty.Given as goal

abbrev pub invariant-tables : goal.invariant-tables
invariant-tables l = groups_of l.all.items ≡ groups_of l.initial.all.items ++ replicate l._index []
