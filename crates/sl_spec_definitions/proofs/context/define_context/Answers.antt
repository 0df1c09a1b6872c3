use Rattle.std.proofs.Common.{ℕ, List, map, sym, ap, ◌∙◌}
use Rattle.std.specs.Borrow.{Bor}
use Rattle.sl_ast.specs.Views.{field_of as seen}
use Rattle.sl_spec_rules.proofs.ListLemmas.{all_map}
use Rattle.sl_spec_registers.proofs.FreshLemmas.{are_free}
use Rattle.sl_spec_registers.specs.NewNames.{are_new}
use Rattle.sl_spec_definitions.specs.FieldRules.{field_names, is_in_order}
use Rattle.sl_spec_definitions.proofs.FieldLemmas.{context_fits}
use Rattle.sl_spec_definitions.proofs.context.define_context.Goals as goal

abbrev bytes : Bor (List ℕ) → List ℕ
bytes n = n.now

pub add-requires-clause-fit : goal.add-requires-clause-fit
add-requires-clause-fit c =
    context_fits c.args.t.now c.args.register.now (map seen c.args.fields.now)
    (all_map is_in_order seen c.args.fields.now ∙ sym c.all_in_order.ensures ∙ c.if-not-all_in_order.false)
    (sym c.is_context.ensures ∙ c.if-not-is_context.false)

pub add-requires-clause-fresh : goal.add-requires-clause-fresh
add-requires-clause-fresh c =
    let t = c.args.t.now in
    let same = ap (are_new t) (ap (map bytes) c.as_slice.ensures.value ∙ c.in_ok-names.ensures) in
    (are_free t (field_names (map seen c.args.fields.now)) (sym same ∙ (sym c.in_ok-are_new.ensures.is ∙ c.if-not-branch.false))).fields
