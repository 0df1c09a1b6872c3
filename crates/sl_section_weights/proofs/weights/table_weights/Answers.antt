use Rattle.std.proofs.Common.{◌≡◌, ◌+◌, ℕ, List, get_or, min, refl, sym, ap, subst, ◌∙◌, arith}
use Rattle.std.proofs.lemmas.List.{length-set}
use Rattle.std.specs.Prelude.{set}
use Rattle.sl_base_graphs.proofs.LevelLemmas.{AreRight, all_right, one_right}
use Rattle.sl_section_resolve.specs.MacroViews.{bodies_of}
use Rattle.sl_spec_tables.specs.Rows as spec
use Rattle.sl_spec_tables.specs.Views.{groups_of}
use Rattle.sl_section_weights.specs.Weights.{step}
use Rattle.sl_section_weights.proofs.WeightLemmas.{caps, takes}
use Rattle.sl_section_weights.proofs.weights.table_weights.Goals as goal

pub order-preserved : goal.order-preserved
order-preserved c = λ is.
    let macros = bodies_of c.args.macros.now in
    let gs = groups_of c.args.groups.now in
    let order = c.args.order.now in
    let i = c.order.place in
    let values = c.order.values.items in
    let v = get_or order i 0 in
    let n = c.table_weight-value.result in
    let is_n : n ≡ min (step macros (λ u. get_or values u 0) (spec.group gs v)) 65537 =
    c.table_weight-value.ensures ∙ ap (λ (l : List ℕ). min (step macros (λ u. get_or l u 0) (spec.group gs v)) 65537) c.as_slice.ensures.value in
    subst (λ (l : List ℕ). AreRight (spec.graph gs) (step macros) (spec.group gs) order 65537 l (i + 1)) (sym c.put.ensures)
    (one_right (spec.graph gs) (step macros) (spec.group gs) (takes macros gs) order is 65537 (caps macros gs 65537) values i v n c.order-test.true refl is_n (length-set values v n) (c.order.invariant is))

pub returns : goal.returns
returns c = λ is.
    let macros = bodies_of c.args.macros.now in
    let gs = groups_of c.args.groups.now in
    let all = c.order.invariant is in
    all_right (spec.graph gs) (step macros) (spec.group gs) (takes macros gs) c.args.order.now is 65537 (caps macros gs 65537) c.order.values.items
    (record { long = all.long; right = λ j below. all.right j (let f = c.order-test.false in omega arith) })
