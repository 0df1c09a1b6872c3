use Rattle.std.proofs.Common.{◌≡◌, ◌≤◌, ◌+◌, drop, get_or, map, min}
use Rattle.sl_spec_tables.specs.Amounts.{node_amount}
use Rattle.sl_spec_tables.specs.Lengths.{put_together}
use Rattle.sl_spec_tables.proofs.quantities.row_nodes.Given as goal

abbrev pub invariant-operands : goal.invariant-operands
invariant-operands l = record {
  small : l.nodes ≤ 1025;
  alike : min (put_together (λ a b. a + b) l.nodes (drop l.operand-index (map (λ o. node_amount (λ u. get_or l.values u 0) o.means) l.operands))) 1025
      ≡ min (put_together (λ a b. a + b) 1 (map (λ o. node_amount (λ u. get_or l.values u 0) o.means) l.operands)) 1025;
}
