use Rattle.std.proofs.Common.{◌≡◌, ◌+◌, ℕ, List, get_or, map, min, ap, ◌∙◌, arith}
use Rattle.sl_spec_rules.proofs.Seen.{below_map, past_map, seen_map}
use Rattle.sl_spec.specs.Tables.{Operand}
use Rattle.sl_spec_tables.specs.Amounts.{node_amount}
use Rattle.sl_spec_tables.proofs.CapLemmas.{all_together, one_together, sum_keeps}
use Rattle.sl_section_weights.proofs.weights.with_operands.Goals as goal

pub operands-preserved : goal.operands-preserved
operands-preserved c =
    let f : ℕ → ℕ = λ u. get_or c.args.values.now u 0 in
    let g : Operand → ℕ = λ o. node_amount f o.means in
    let os = c.args.operands.now in
    let i = c.operands.operand-index in
    let o = c.operand-item.result in
    let below = c.operands-test.true in
    let a = c.min.ensures in
    let m : c.means_weight.result ≡ g o = c.means_weight.ensures ∙ ap g c.operand.view_is in
    let is_k : c.min.result ≡ min (g o) 65537 = omega arith in
    let k = c.sum-weight.ensures in
    record {
      small = omega arith;
      alike = one_together 65537 (λ a b. a + b) (sum_keeps 65537) _ c.operands.weight c.sum-weight.result (g o) c.min.result (map g os) i
          (below_map g os i below) (seen_map g os i o below c.operand-item.is) is_k (omega arith) c.operands.invariant.alike;
    }

pub returns : goal.returns
returns c =
    let f : ℕ → ℕ = λ u. get_or c.args.values.now u 0 in
    let g : Operand → ℕ = λ o. node_amount f o.means in
    let os = c.args.operands.now in
    let all = all_together 65537 (λ a b. a + b) (sum_keeps 65537) _ c.operands.weight (map g os) c.operands.operand-index (past_map g os c.operands.operand-index c.operands-test.false) c.operands.invariant.alike in
    let small : c.operands.weight ≡ min c.operands.weight 65537 = (let s = c.operands.invariant.small in omega arith) in
    small ∙ all
