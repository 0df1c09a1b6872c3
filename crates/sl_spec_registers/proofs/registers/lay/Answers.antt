use Rattle.std.proofs.Common.{ℕ, ◌+◌, List, drop, map, refl, sym, ap, ◌∙◌}
use Rattle.std.specs.Borrow.{Bor}
use Rattle.sl_spec_rules.proofs.Seen.{below_map, past_map, read_map}
use Rattle.sl_spec_rules.specs.Names.{differ_behind}
use Rattle.sl_spec.specs.Tables.{Register}
use Rattle.sl_spec_registers.specs.RegisterRules.{given_names}
use Rattle.sl_spec_registers.proofs.FreshLemmas.{first_is_free, rest_is_left}
use Rattle.sl_spec_registers.proofs.RegisterLemmas.{all_laid, given_rest, one_laid, one_skipped, skipped_rest}
use Rattle.sl_spec_registers.proofs.registers.lay.Goals as goal

abbrev seen : Bor (List ℕ) → List ℕ
seen n = n.now

pub places-preserved-then-is_skipped : goal.places-preserved-then-is_skipped
places-preserved-then-is_skipped c =
    let names = map seen c.args.names.now in
    let below = below_map seen c.args.names.now c.places.place c.places-test.true in
    let at = read_map seen c.args.names.now c.places.place _ c.places-test.true in
    let skipped = sym c.is_skipped.ensures ∙ c.if-is_skipped.true in
    record {
      laid = one_skipped c.args.space c.args.offset c.args.size.bytes names c.args.registers.now c.places.registers c.places.place _ below at c.places.invariant.laid skipped;
      left = ap (differ_behind (map (λ (r : Register). r.name) c.places.registers)) (sym (skipped_rest names c.places.place _ below at skipped)) ∙ c.places.invariant.left;
    }

pub add-requires-clause-fresh : goal.add-requires-clause-fresh
add-requires-clause-fresh c =
    let names = map seen c.args.names.now in
    let below = below_map seen c.args.names.now c.places.place c.places-test.true in
    let at = read_map seen c.args.names.now c.places.place _ c.places-test.true in
    let rest = given_rest names c.places.place _ below at (sym c.is_skipped.ensures ∙ c.if-is_skipped.false) in
    first_is_free (λ (r : Register). r.name) c.places.registers _ (given_names (drop (c.places.place + 1) names)) (given_names (drop c.places.place names)) rest c.places.invariant.left

pub places-preserved : goal.places-preserved
places-preserved c =
    let names = map seen c.args.names.now in
    let below = below_map seen c.args.names.now c.places.place c.places-test.true in
    let at = read_map seen c.args.names.now c.places.place _ c.places-test.true in
    let given = sym c.is_skipped.ensures ∙ c.if-is_skipped.false in
    let rest = given_rest names c.places.place _ below at given in
    let size = c.from.ensures ∙ c.get.ensures in
    rw (c.in_ok-add.ensures.added, size) (record {
      laid = one_laid c.args.space c.args.offset c.args.size.bytes names c.args.registers.now c.places.registers c.places.place _ below at c.places.invariant.laid given;
      left = rest_is_left (λ (r : Register). r.name) c.places.registers _ (given_names (drop (c.places.place + 1) names)) (given_names (drop c.places.place names)) rest c.places.invariant.left _ refl;
    })

pub returns : goal.returns
returns c =
    all_laid c.args.space c.args.offset c.args.size.bytes (map seen c.args.names.now) c.args.registers.now c.places.registers c.places.place
    (past_map seen c.args.names.now c.places.place c.places-test.false) c.places.invariant.laid
