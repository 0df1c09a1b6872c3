use Rattle.std.proofs.Common.{◌≡◌, ◌≤◌, ℕ, get_or, map, min, sym, ap, subst, ◌∙◌, arith}
use Rattle.std.proofs.lemmas.List.{length-map}
use Rattle.sl_spec_rules.proofs.Seen.{below_map, past_map, seen_map}
use Rattle.sl_spec.specs.Numbers.{AreTold}
use Rattle.sl_spec_tables.specs.Amounts.{pick}
use Rattle.sl_spec_tables.specs.Lengths.{amount}
use Rattle.sl_spec_tables.specs.Rows as spec
use Rattle.sl_spec_tables.specs.Views.{row_of, rows_of}
use Rattle.sl_spec_tables.specs.declared.rows.Row.{Row}
use Rattle.sl_spec_tables.proofs.BlockLemmas.{all_at}
use Rattle.sl_spec_tables.proofs.CapLemmas.{all_together, one_together}
use Rattle.sl_spec_tables.proofs.StepLemmas.{from_start, pick_keeps, pick_small}
use Rattle.sl_spec_tables.proofs.quantities.over_some.Goals as goal

pub amount-requires : goal.amount-requires
amount-requires c =
    let m = c.requires.measured in
    (m.0, all_at (λ (x : Row). AreTold m.0 x.own.now.heads.items) c.args.rows.now c.rows.index c.index-rows-index.result m.1 c.rows-test.true c.index-rows-index.is, m.2)

pub rows-preserved : goal.rows-preserved
rows-preserved c =
    let f : ℕ → ℕ = λ u. get_or c.args.values.now u 0 in
    let q = c.args.quantity in
    let g : spec.Row → ℕ = amount q c.args.t.now f in
    let rs = c.args.rows.now in
    let i = c.rows.index in
    let r = c.index-rows-index.result in
    let below = c.rows-test.true in
    let inside = below_map row_of rs i below in
    let is_k : c.amount.result ≡ min (g (row_of r)) 1025 = c.amount.ensures in
    record {
      small = subst (λ n. n ≤ 1025) (sym c.pick-most.ensures) (pick_small q c.rows.most c.amount.result 1025 c.rows.invariant.small (omega arith));
      alike = one_together 1025 (pick q) (pick_keeps q 1025) _ c.rows.most c.pick-most.result (g (row_of r)) c.amount.result (map g (rows_of rs)) i
          (below_map g (rows_of rs) i inside) (seen_map g (rows_of rs) i (row_of r) inside (seen_map row_of rs i r below c.index-rows-index.is)) is_k (ap (λ n. min n 1025) c.pick-most.ensures) c.rows.invariant.alike;
    }

pub returns : goal.returns
returns c =
    let f : ℕ → ℕ = λ u. get_or c.args.values.now u 0 in
    let q = c.args.quantity in
    let g : spec.Row → ℕ = amount q c.args.t.now f in
    let rs = c.args.rows.now in
    let past = past_map g (rows_of rs) c.rows.index (past_map row_of rs c.rows.index c.rows-test.false) in
    let all = all_together 1025 (pick q) (pick_keeps q 1025) _ c.rows.most (map g (rows_of rs)) c.rows.index past c.rows.invariant.alike in
    let small : c.rows.most ≡ min c.rows.most 1025 = (let s = c.rows.invariant.small in omega arith) in
    small ∙ all ∙ from_start q (map g (rows_of rs)) (omega (arith, length-map (rows_of rs) g, length-map rs row_of, c.requires.some))
