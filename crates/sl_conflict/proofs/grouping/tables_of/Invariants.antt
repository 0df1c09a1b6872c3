use Rattle.std.proofs.Common.{◌≡◌, ◌++◌, length}
use Rattle.std.specs.Vec.Iter.{into_iter_items, into_iter_len}
use Rattle.sl_conflict.specs.Kept.{AreTablesOf}
use Rattle.sl_conflict.specs.Rows.{rows}
use Rattle.sl_conflict.proofs.grouping.tables_of.Given as goal

abbrev pub invariant-sets : goal.invariant-sets
invariant-sets l = record {
  numbered : length l.yielded ≡ l.number;
  together : l.yielded ++ into_iter_items l.set-iterator ≡ l.fn.sets.items;
  left : length (into_iter_items l.set-iterator) ≡ into_iter_len l.set-iterator;
  tables : AreTablesOf l.count (rows l.ctors l.yielded) l.tables.items;
}
