use Rattle.std.proofs.Common.{◌≡◌, ◌≤◌, drop, get_or, map, min}
use Rattle.sl_spec_tables.specs.Amounts.{pick, start}
use Rattle.sl_spec_tables.specs.Lengths.{amount, put_together}
use Rattle.sl_spec_tables.specs.Views.{rows_of}
use Rattle.sl_spec_tables.proofs.quantities.over_some.Given as goal

abbrev pub invariant-rows : goal.invariant-rows
invariant-rows l = record {
  small : l.most ≤ 1025;
  alike : min (put_together (pick l.quantity) l.most (drop l.index (map (amount l.quantity l.t (λ u. get_or l.values u 0)) (rows_of l.rows)))) 1025
      ≡ min (put_together (pick l.quantity) (start l.quantity) (map (amount l.quantity l.t (λ u. get_or l.values u 0)) (rows_of l.rows))) 1025;
}
