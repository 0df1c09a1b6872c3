use Rattle.std.proofs.Common.{ℕ, List, map, sym, ◌∙◌}
use Rattle.std.specs.Borrow.{Bor}
use Rattle.std.proofs.lemmas.List.{map_push}
use Rattle.sl_spec_rules.proofs.Seen.{below_map, read_map}
use Rattle.sl_spec_registers.proofs.RegisterLemmas.{given_goes, given_skips}
use Rattle.sl_spec_registers.proofs.registers.given_names.Goals as goal

abbrev seen : Bor (List ℕ) → List ℕ
seen n = n.now

pub names-preserved-then-is_skipped : goal.names-preserved-then-is_skipped
names-preserved-then-is_skipped c =
    let names = map seen c.args.names.now in
    given_skips names c.names.index _ (below_map seen c.args.names.now c.names.index c.names-test.true) (read_map seen c.args.names.now c.names.index _ c.names-test.true)
    (map seen c.names.given.items) (sym c.is_skipped.ensures ∙ c.if-is_skipped.true) c.names.invariant

pub names-preserved : goal.names-preserved
names-preserved c =
    let names = map seen c.args.names.now in
    rw c.in_ok-push.ensures.items (rw (map_push seen c.names.given.items _)
    (given_goes names c.names.index _ (below_map seen c.args.names.now c.names.index c.names-test.true) (read_map seen c.args.names.now c.names.index _ c.names-test.true)
    (map seen c.names.given.items) (sym c.is_skipped.ensures ∙ c.if-is_skipped.false) c.names.invariant))
