use Rattle.std.proofs.Common.{ℕ, [], List, get_or, option_to_list}
use Rattle.std.specs.Prelude.{slice_get}
use Rattle.sl_spec_rules.proofs.Gathers.{all_gathered, gathers}
use Rattle.sl_section_sizes.specs.Constructors.{Constructor}
use Rattle.sl_section_sizes.specs.ConstructorViews.{constructors_of}
use Rattle.sl_spec_tables.proofs.PositionLemmas.{read_alike}
use Rattle.sl_section_sizes.proofs.rows.in_order.Goals as goal

abbrev at : List Constructor → ℕ → List Constructor
at cs i = option_to_list (slice_get cs i)

pub numbers-preserved : goal.numbers-preserved
numbers-preserved c =
    let is = c.args.numbers.now in
    let i = c.numbers.index in
    let n : ℕ = get_or is i 0 in
    gathers (at (constructors_of c.args.all.now)) [] is (constructors_of c.numbers.ordered.items) (constructors_of c.add_at.new.ordered.items) i n c.numbers-test.true
    (read_alike is i 0 n c.numbers-test.true) c.in_ok-add_at.ensures c.numbers.invariant

pub returns : goal.returns
returns c = all_gathered (at (constructors_of c.args.all.now)) [] c.args.numbers.now (constructors_of c.numbers.ordered.items) c.numbers.index c.numbers-test.false c.numbers.invariant
