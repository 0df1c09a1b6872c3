use Rattle.std.proofs.Common.{ℕ, List, map, sym, ap, ◌∙◌}
use Rattle.std.specs.Borrow.{Bor}
use Rattle.sl_ast.specs.Views.{field_of as seen}
use Rattle.sl_spec_rules.proofs.ListLemmas.{all_map}
use Rattle.sl_spec_registers.proofs.FreshLemmas.{are_free, first_is_no_token, others_are_new}
use Rattle.sl_spec_registers.specs.NewNames.{are_new}
use Rattle.sl_spec_definitions.specs.FieldRules.{field_names, is_token_field}
use Rattle.sl_spec_definitions.proofs.FieldLemmas.{token_fields_fit}
use Rattle.sl_spec_definitions.proofs.tokens.define_token.Goals as goal

abbrev bytes : Bor (List ℕ) → List ℕ
bytes n = n.now

pub add_token-requires-clause-free : goal.add_token-requires-clause-free
add_token-requires-clause-free c =
    let same = ap (are_new c.args.t.now) (ap (map bytes) c.as_slice.ensures.value ∙ c.in_ok-names.ensures) in
    first_is_no_token c.args.t.now c.args.name.now (field_names (map seen c.args.fields.now)) (sym same ∙ (sym c.in_ok-are_new.ensures.is ∙ c.if-not-branch.false))

pub add_token-requires-clause-fit : goal.add_token-requires-clause-fit
add_token-requires-clause-fit c =
    token_fields_fit c.args.bits (map seen c.args.fields.now) (c.is_width.ensures.most c.if-not-is_width.false)
    (all_map (is_token_field c.args.bits) seen c.args.fields.now ∙ sym c.all_token_fields.ensures ∙ c.if-not-all_token_fields.false)

pub add_token-requires-clause-fresh : goal.add_token-requires-clause-fresh
add_token-requires-clause-fresh c =
    let t = c.args.t.now in
    let names = field_names (map seen c.args.fields.now) in
    let same = ap (are_new t) (ap (map bytes) c.as_slice.ensures.value ∙ c.in_ok-names.ensures) in
    (are_free t names (others_are_new t c.args.name.now names (sym same ∙ (sym c.in_ok-are_new.ensures.is ∙ c.if-not-branch.false)))).fields
