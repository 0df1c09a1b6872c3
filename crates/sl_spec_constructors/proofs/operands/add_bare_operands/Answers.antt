use Rattle.std.proofs.Common.{List, ℕ, map}
use Rattle.std.specs.Borrow.{Bor}
use Rattle.sl_spec_rules.proofs.Seen.{below_map, read_map}
use Rattle.sl_spec_registers.proofs.FreshLemmas.{made_goes}
use Rattle.sl_spec_constructors.specs.Operands.{bare_operand}
use Rattle.sl_spec_constructors.proofs.operands.add_bare_operands.Goals as goal

abbrev bytes : Bor (List ℕ) → List ℕ
bytes n = n.now

pub bare-preserved : goal.bare-preserved
bare-preserved c =
    let bare = c.args.bare.now in
    let below = c.bare-test.true in
    rw (c.in_ok-push.ensures.items, c.in_ok-operand.ensures) (made_goes (bare_operand c.args.fields.now c.args.tables.now) c.args.all.now.items (map bytes bare) c.bare.all.items c.bare.index _
    (below_map bytes bare c.bare.index below) (read_map bytes bare c.bare.index _ below) c.bare.invariant)
