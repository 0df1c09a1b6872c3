use Rattle.std.proofs.Common.{◌+◌, drop, map, refl, ap}
use Rattle.sl_ast.specs.Views.{field_of as seen}
use Rattle.sl_spec_rules.proofs.Seen.{below_map, seen_map}
use Rattle.sl_spec.specs.Tables.{Field}
use Rattle.sl_spec_registers.proofs.FreshLemmas.{first_is_free, made_goes, rest_at, rest_is_left}
use Rattle.sl_spec_definitions.specs.FieldRules.{field_names, field_of}
use Rattle.sl_spec_definitions.proofs.FieldLemmas.{high_is_small, low_is_least}
use Rattle.sl_spec_definitions.proofs.tokens.add.Goals as goal

pub field_of-requires-clause-order : goal.field_of-requires-clause-order
field_of-requires-clause-order c =
    let fields = c.args.given.now in
    let below = c.fields-test.true in
    low_is_least (map seen fields) c.fields.index (seen c.index-given-index.result) (below_map seen fields c.fields.index below)
    (seen_map seen fields c.fields.index _ below c.index-given-index.is) c.requires.fit

pub field_of-requires-clause-most : goal.field_of-requires-clause-most
field_of-requires-clause-most c =
    let fields = c.args.given.now in
    let below = c.fields-test.true in
    high_is_small (map seen fields) c.fields.index (seen c.index-given-index.result) (below_map seen fields c.fields.index below)
    (seen_map seen fields c.fields.index _ below c.index-given-index.is) c.requires.fit

pub add-requires-clause-fresh : goal.add-requires-clause-fresh
add-requires-clause-fresh c =
    let fields = c.args.given.now in
    let given = map seen fields in
    let below = c.fields-test.true in
    let at = seen_map seen fields c.fields.index c.index-given-index.result below c.index-given-index.is in
    let rest = ap field_names (rest_at given c.fields.index _ (below_map seen fields c.fields.index below) at) in
    first_is_free (λ (f : Field). f.name) c.fields.fields _ (field_names (drop (c.fields.index + 1) given)) (field_names (drop c.fields.index given)) rest c.fields.invariant.left

pub fields-preserved : goal.fields-preserved
fields-preserved c =
    let fields = c.args.given.now in
    let given = map seen fields in
    let below = c.fields-test.true in
    let at = seen_map seen fields c.fields.index c.index-given-index.result below c.index-given-index.is in
    let rest = ap field_names (rest_at given c.fields.index _ (below_map seen fields c.fields.index below) at) in
    rw (c.in_ok-add.ensures.added, c.field_of.ensures) (record {
      made = made_goes (field_of c.args.token) c.args.fields.now given c.fields.fields c.fields.index _ (below_map seen fields c.fields.index below) at c.fields.invariant.made;
      left = rest_is_left (λ (f : Field). f.name) c.fields.fields _ (field_names (drop (c.fields.index + 1) given)) (field_names (drop c.fields.index given)) rest c.fields.invariant.left
          (field_of c.args.token (seen c.index-given-index.result)) refl;
    })
