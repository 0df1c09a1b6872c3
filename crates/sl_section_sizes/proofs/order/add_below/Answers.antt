use Rattle.std.proofs.Common.{ℕ, List, nat_lt}
use Rattle.sl_section_exports.specs.Exports.{if_so}
use Rattle.sl_spec_rules.proofs.Gathers.{all_gathered, gathers}
use Rattle.sl_section_sizes.proofs.order.add_below.Goals as goal

abbrev chosen : ℕ → ℕ → List ℕ
chosen count i = if_so (nat_lt i count) i

pub ids-preserved : goal.ids-preserved
ids-preserved c =
    gathers (chosen c.args.count) c.args.all.now.items c.args.ids.now c.ids.all.items c.add_one.new.all.items c.ids.index
    c.index-ids-index.result c.ids-test.true c.index-ids-index.is c.in_ok-add_one.ensures c.ids.invariant

pub returns : goal.returns
returns c = all_gathered (chosen c.args.count) c.args.all.now.items c.args.ids.now c.ids.all.items c.ids.index c.ids-test.false c.ids.invariant
