use Rattle.std.proofs.Common.{◌≡◌, ℕ, List, Bool, false, length, ap, sym, subst, ◌∙◌, get_or}
use Rattle.sl_base_graphs.specs.Orders.{AreTold, IsOrder, NoneReaches}
use Rattle.sl_base_graphs.specs.Reaching.{Graph}
use Rattle.sl_base_graphs.specs.Views.{graph_of}
use Rattle.sl_spec_tables.specs.Rows.{graph}
use Rattle.sl_spec_tables.specs.TableRules.{amount_rules, first_fault, first_place, reaching_place}
use Rattle.sl_spec_tables.specs.Views.{groups_of, rows_of}
use Rattle.sl_spec_tables.proofs.JudgeLemmas.{fault_none, fault_some, none_reaches, reaching_as}
use Rattle.sl_spec_tables.proofs.judge.reaching_fault.Goals as goal

pub returns-in-Some : goal.returns-in-Some
returns-in-Some c =
    let gs = groups_of c.args.groups.now in
    let rs = rows_of c.args.rows.now in
    let e : graph_of c.as_slice.result.now ≡ graph gs = ap graph_of c.as_slice.ensures.value ∙ c.in_ok-graph.ensures in
    let told = c.in_ok-levels.levels.reaching.items in
    let place : c.first_reaching.result ≡ reaching_place gs rs = c.first_reaching.ensures ∙ ap (λ (l : List Bool). first_place (λ r. get_or l r.0.table false) rs) c.as_slice-2.ensures.value
    ∙ reaching_as gs rs told (subst (λ (g : Graph). AreTold g told) e c.in_ok-levels.ensures.reaching) in
    fault_some 34 (reaching_place gs rs) c.in-Some.place _ (sym place ∙ c.in-Some.is)

pub amount_fault-requires : goal.amount_fault-requires
amount_fault-requires c =
    let gs = groups_of c.args.groups.now in
    let rs = rows_of c.args.rows.now in
    let e : graph_of c.as_slice.result.now ≡ graph gs = ap graph_of c.as_slice.ensures.value ∙ c.in_ok-graph.ensures in
    let told = c.in_ok-levels.levels.reaching.items in
    let place : c.first_reaching.result ≡ reaching_place gs rs = c.first_reaching.ensures ∙ ap (λ (l : List Bool). first_place (λ r. get_or l r.0.table false) rs) c.as_slice-2.ensures.value
    ∙ reaching_as gs rs told (subst (λ (g : Graph). AreTold g told) e c.in_ok-levels.ensures.reaching) in
    let none = none_reaches (length c.args.t.now.tables) gs rs c.requires.grouped (sym place ∙ c.in_default.is) in record {
      groups = c.requires.groups;
      rows = c.requires.rows;
      order = subst (λ (l : List ℕ). IsOrder (graph gs) l) (sym c.as_slice-3.ensures.value)
          (subst (λ (g : Graph). IsOrder g c.in_ok-levels.levels.order.items) e (c.in_ok-levels.ensures.order (subst (λ (g : Graph). NoneReaches g) (sym e) none)));
      grouped = c.requires.grouped;
    }

pub returns : goal.returns
returns c =
    let gs = groups_of c.args.groups.now in
    let rs = rows_of c.args.rows.now in
    let e : graph_of c.as_slice.result.now ≡ graph gs = ap graph_of c.as_slice.ensures.value ∙ c.in_ok-graph.ensures in
    let told = c.in_ok-levels.levels.reaching.items in
    let place : c.first_reaching.result ≡ reaching_place gs rs = c.first_reaching.ensures ∙ ap (λ (l : List Bool). first_place (λ r. get_or l r.0.table false) rs) c.as_slice-2.ensures.value
    ∙ reaching_as gs rs told (subst (λ (g : Graph). AreTold g told) e c.in_ok-levels.ensures.reaching) in
    c.in_ok-fault.ensures ∙ fault_none 34 (reaching_place gs rs) (first_fault (amount_rules c.args.t.now gs rs)) (sym place ∙ c.in_default.is)
