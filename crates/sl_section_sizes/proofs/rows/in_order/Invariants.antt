use Rattle.std.proofs.Common.{[], option_to_list}
use Rattle.std.specs.Prelude.{slice_get}
use Rattle.sl_spec_rules.proofs.Gathers.{IsGathered}
use Rattle.sl_section_sizes.specs.ConstructorViews.{constructors_of}
use Rattle.sl_section_sizes.proofs.rows.in_order.Given as goal

abbrev pub invariant-numbers : goal.invariant-numbers
invariant-numbers l = IsGathered (λ i. option_to_list (slice_get (constructors_of l.all) i)) [] l.numbers (constructors_of l.ordered.items) l.index
