use Rattle.std.proofs.Common.{◌+◌, ◌-◌, ◌*◌}
use Rattle.sl_store_format.specs.Items.{inner_here}
use Rattle.sl_store_bytes.specs.Lists.{list_of}
use Rattle.sl_store_read.proofs.Nested.{InsideReading}
use Rattle.sl_store_read.proofs.items.+inner.Given as goal

abbrev pub decreases-inner_here : goal.decreases-inner_here
decreases-inner_here l = 2 * l.depth

abbrev pub decreases-inside_here : goal.decreases-inside_here
decreases-inside_here l = 2 * l.depth + 1

abbrev pub invariant-inside_here-rounds : goal.invariant-inside_here-rounds
invariant-inside_here-rounds l =
    InsideReading l.files l.depth (list_of (inner_here l.files l.depth) l.fn.bytes) (l.count - l._round) l.found.items l.fn.places.items l.places.items l.bytes
