use Rattle.std.proofs.Common.{◌≡◌, ◌∷◌, None, Option, List, ℕ, length, get_or, min, ap, sym, subst, ◌∙◌}
use Rattle.std.specs.List.{zip}
use Rattle.std.specs.Prelude.{position}
use Rattle.sl_base_graphs.specs.Orders.{IsOrder, NoneReaches}
use Rattle.sl_base_graphs.specs.Reaching.{Graph}
use Rattle.sl_base_graphs.specs.Views.{graph_of}
use Rattle.sl_section_resolve.specs.MacroViews.{bodies_of}
use Rattle.sl_spec.specs.Tables.{Ctor}
use Rattle.sl_spec.specs.Unfolded.{all_placed}
use Rattle.sl_spec_tables.specs.Rows as spec
use Rattle.sl_spec_tables.specs.Views.{groups_of, rows_of}
use Rattle.sl_spec_tables.specs.declared.rows.Row.{Row}
use Rattle.sl_section_weights.specs.Weights.{table_weight}
use Rattle.sl_section_weights.proofs.WeightLemmas.{first_as, heavy_as, heavy_by, none_reach}
use Rattle.sl_section_weights.proofs.weights.first_heavy.Goals as goal

pub returns : goal.returns
returns c = λ holds.
    let t = c.args.t.now in
    let macros = bodies_of c.args.macros.now in
    let cs = all_placed c.args.constructors.now in
    let rs = rows_of c.in_ok-rows.rows.items in
    let gs = groups_of c.in_ok-groups.groups.items in
    let is : rs ≡ spec.rows t cs = c.in_ok-rows.ensures.all ∙ ap (λ (l : List Ctor). zip l cs) c.as_slice.ensures in
    let grouped : gs ≡ spec.groups (length t.tables) rs = c.in_ok-groups.ensures.all ∙ ap (λ n. spec.groups n (rows_of c.as_slice-2.result.now)) c.len.ensures ∙ ap (λ (l : List Row). spec.groups (length t.tables) (rows_of l)) c.as_slice-2.ensures.value in
    let g : graph_of c.as_slice-4.result.now ≡ spec.graph gs = ap graph_of c.as_slice-4.ensures.value ∙ c.in_ok-graph.ensures ∙ ap (λ x. spec.graph (groups_of x)) c.as_slice-3.ensures.value in
    let none : NoneReaches (spec.graph gs) = subst (λ (x : List (List spec.Row)). NoneReaches (spec.graph x)) (sym (grouped ∙ ap (λ (l : List spec.Row). spec.groups (length t.tables) l) is)) (none_reach t cs holds) in
    let order : IsOrder (spec.graph gs) c.in_ok-levels.levels.order.items = subst (λ (x : Graph). IsOrder x c.in_ok-levels.levels.order.items) g (c.in_ok-levels.ensures.order (subst NoneReaches (sym g) none)) in
    let right : (v : ℕ) → get_or c.in_ok-values.values.items v 0 ≡ min (table_weight macros gs v) 65537 =
    subst (λ x. (v : ℕ) → get_or c.in_ok-values.values.items v 0 ≡ min (table_weight macros (groups_of x) v) 65537) c.as_slice-5.ensures.value
    (c.in_ok-values.ensures (subst (λ x. IsOrder (spec.graph (groups_of x)) c.as_slice-order.result.now) (sym c.as_slice-5.ensures.value) (subst (λ l. IsOrder (spec.graph gs) l) (sym c.as_slice-order.ensures.value) order))) in
    c.heavy_index-index.ensures
    ∙ ap (λ (l : List ℕ). position (heavy_by macros gs l) (rows_of c.as_slice-7.result.now)) c.as_slice-6.ensures.value
    ∙ ap (λ (l : List Row). position (heavy_by macros gs c.in_ok-values.values.items) (rows_of l)) c.as_slice-7.ensures.value
    ∙ heavy_as macros gs c.in_ok-values.values.items rs right ∙ first_as t macros cs rs gs is grouped
