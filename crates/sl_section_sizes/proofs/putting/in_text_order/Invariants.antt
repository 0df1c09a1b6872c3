use Rattle.std.proofs.Common.{◌≡◌}
use Rattle.sl_section_sizes.specs.Ordering.{in_text_order, put_all}
use Rattle.sl_section_sizes.specs.Sizings.{lists_of}
use Rattle.sl_section_sizes.proofs.putting.in_text_order.Given as goal

abbrev pub invariant-rounds : goal.invariant-rounds
invariant-rounds l = put_all (lists_of l.all.items) (lists_of l.found.items) l.numbers ≡ in_text_order l.count (lists_of l.fn.found.items) l.numbers
