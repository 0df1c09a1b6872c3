use Rattle.std.proofs.Common.{[], map, sym, ◌∙◌}
use Rattle.std.specs.Borrow.{Bor}
use Rattle.std.proofs.Common.{List, ℕ}
use Rattle.sl_spec_rules.proofs.Seen.{below_map, past_map, read_map}
use Rattle.sl_spec_rules.specs.Names.{differ_behind}
use Rattle.sl_spec_rules.proofs.Differ.{differ_goes, differ_stops, differ_ends}
use Rattle.sl_spec_rules.proofs.names.are_distinct.Goals as goal

abbrev bytes : Bor (List ℕ) → List ℕ
bytes n = n.now

pub names-preserved : goal.names-preserved
names-preserved c =
    let names = map bytes c.args.names.now in
    rw c.in_ok-add.ensures.added (differ_goes names (differ_behind [] names) c.names.seen c.names.index _
    (below_map bytes c.args.names.now c.names.index c.names-test.true) (read_map bytes c.args.names.now c.names.index _ c.names-test.true)
    (sym c.has.ensures ∙ c.if-has.false) c.names.invariant)

pub returns-then-has : goal.returns-then-has
returns-then-has c =
    let names = map bytes c.args.names.now in
    differ_stops names (differ_behind [] names) c.names.seen c.names.index _
    (below_map bytes c.args.names.now c.names.index c.names-test.true) (read_map bytes c.args.names.now c.names.index _ c.names-test.true)
    (sym c.has.ensures ∙ c.if-has.true) c.names.invariant

pub returns : goal.returns
returns c =
    let names = map bytes c.args.names.now in
    differ_ends names (differ_behind [] names) c.names.seen c.names.index (past_map bytes c.args.names.now c.names.index c.names-test.false) c.names.invariant
