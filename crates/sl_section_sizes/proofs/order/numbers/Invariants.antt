use Rattle.std.proofs.Common.{[]}
use Rattle.std.specs.Prelude.{slice_get}
use Rattle.sl_spec_rules.proofs.Gathers.{IsGathered}
use Rattle.sl_section_sizes.specs.Ordering.{below, numbers_of}
use Rattle.sl_section_sizes.proofs.order.numbers.Given as goal

abbrev pub invariant-tables : goal.invariant-tables
invariant-tables l = IsGathered (λ v. below l.count (numbers_of (slice_get l.t.tables v))) [] l.tables l.all.items l.index
