use Rattle.std.proofs.Common.{◌≡◌, ◌≤◌, ◌+◌, drop, get_or, map, min}
use Rattle.sl_spec_tables.specs.Amounts.{node_amount}
use Rattle.sl_spec_tables.specs.Lengths.{put_together}
use Rattle.sl_section_weights.proofs.weights.with_operands.Given as goal

abbrev pub invariant-operands : goal.invariant-operands
invariant-operands l =
    let all = map (λ o. node_amount (λ u. get_or l.values u 0) o.means) l.operands in
    record {
      small : l.weight ≤ 65537;
      alike : min (put_together (λ m n. m + n) l.weight (drop l.operand-index all)) 65537 ≡ min (put_together (λ m n. m + n) l.own all) 65537;
    }
