use Rattle.std.proofs.Common.{nat_lt}
use Rattle.sl_section_exports.specs.Exports.{if_so}
use Rattle.sl_spec_rules.proofs.Gathers.{IsGathered}
use Rattle.sl_section_sizes.proofs.order.add_below.Given as goal

abbrev pub invariant-ids : goal.invariant-ids
invariant-ids l = IsGathered (λ i. if_so (nat_lt i l.count) i) l.initial.all.items l.ids l.all.items l.index
