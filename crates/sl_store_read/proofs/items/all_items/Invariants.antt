use Rattle.std.proofs.Common.{◌-◌}
use Rattle.sl_store_format.specs.Items.{items_here}
use Rattle.sl_store_read.proofs.Nested.{ItemsReading}
use Rattle.sl_store_read.proofs.items.all_items.Given as goal

abbrev pub invariant-rounds : goal.invariant-rounds
invariant-rounds l = ItemsReading l.files (items_here l.files l.fn.bytes) (l.count - l._round) l.items.items l.places.items l.bytes
