use Rattle.std.proofs.Common.{◌≡◌, [], fold, map, take}
use Rattle.sl_spec_order.specs.Orders.{met}
use Rattle.sl_spec_order.specs.Steps.{Tells}
use Rattle.sl_spec.specs.Tables.{Ctor}
use Rattle.sl_spec_order.proofs.appearing.appearing_tables.Given as goal

abbrev pub invariant-ctors : goal.invariant-ctors
invariant-ctors l = record {
  tells : Tells l.count l.all.items l.seen.items;
  all : l.all.items ≡ fold (met l.count) [] (map (λ (x : Ctor). x.table) (take l.index l.ctors));
}
