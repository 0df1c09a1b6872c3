use Rattle.std.proofs.Common.{[]}
use Rattle.sl_conflict.specs.Kept.{AreTablesOf}
use Rattle.sl_conflict.proofs.grouping.empty_tables.Given as goal

abbrev pub invariant-tables : goal.invariant-tables
invariant-tables l = AreTablesOf l._index [] l.tables.items
