use Rattle.std.proofs.Common.{◌≡◌, ◌+◌, ℕ, List, get_or, map, min, sym, ap, ◌∙◌, arith}
use Rattle.sl_spec_rules.proofs.Seen.{below_map, past_map, seen_map}
use Rattle.sl_spec.specs.Tables.{Ctor, Operand}
use Rattle.sl_spec_tables.specs.Amounts.{node_amount}
use Rattle.sl_spec_tables.specs.Lengths.{put_together}
use Rattle.sl_spec_tables.specs.Views.{row_of}
use Rattle.sl_spec_tables.proofs.CapLemmas.{all_together, one_together, sum_keeps}
use Rattle.sl_spec_tables.proofs.StepLemmas.{nodes_as}
use Rattle.sl_spec_tables.proofs.quantities.row_nodes.Goals as goal

pub operands-preserved : goal.operands-preserved
operands-preserved c =
    let f : ℕ → ℕ = λ u. get_or c.args.values.now u 0 in
    let g : Operand → ℕ = λ o. node_amount f o.means in
    let os = c.as_slice-operands.result.now in
    let i = c.operands.operand-index in
    let o = c.operand-item.result in
    let below = c.operands-test.true in
    let a = c.capped.ensures in
    let m : c.means_nodes.result ≡ g o = c.means_nodes.ensures ∙ ap g c.operand.view_is in
    let is_k : c.capped.result ≡ min (g o) 1025 = omega arith in
    let k = c.capped-nodes.ensures in
    record {
      small = omega arith;
      alike = one_together 1025 (λ a b. a + b) (sum_keeps 1025) _ c.operands.nodes c.capped-nodes.result (g o) c.capped.result (map g os) i
          (below_map g os i below) (seen_map g os i o below c.operand-item.is) is_k (omega arith) c.operands.invariant.alike;
    }

pub returns : goal.returns
returns c =
    let f : ℕ → ℕ = λ u. get_or c.args.values.now u 0 in
    let g : Operand → ℕ = λ o. node_amount f o.means in
    let os = c.as_slice-operands.result.now in
    let row = row_of c.args.row.now in
    let all = all_together 1025 (λ a b. a + b) (sum_keeps 1025) _ c.operands.nodes (map g os) c.operands.operand-index (past_map g os c.operands.operand-index c.operands-test.false) c.operands.invariant.alike in
    let operands : os ≡ row.0.operands = c.as_slice-operands.ensures.value ∙ ap (λ (x : Ctor). x.operands) c.ctor.view_is in
    let small : c.operands.nodes ≡ min c.operands.nodes 1025 = (let s = c.operands.invariant.small in omega arith) in
    small ∙ all ∙ ap (λ (l : List Operand). min (put_together (λ a b. a + b) 1 (map g l)) 1025) operands ∙ ap (λ n. min n 1025) (sym (nodes_as f row))
