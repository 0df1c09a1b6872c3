use Rattle.std.proofs.Common.{◌≡◌, ℕ, ◌<◌, vec_len}
use Rattle.sl_sizes.specs.Solutions.{bytes_at}
use Rattle.sl_sizes.specs.Nodes.{node_of, IsFixed}
use Rattle.sl_sizes.proofs.inference.sizes.Given as goal

abbrev pub invariant-variables : goal.invariant-variables
invariant-variables l = record {
  count : vec_len l.sizes ≡ l.variable;
  fixed : (v : ℕ) → v < l.variable → IsFixed l.variables (node_of l.nodes) v (bytes_at l.sizes.items v);
}
