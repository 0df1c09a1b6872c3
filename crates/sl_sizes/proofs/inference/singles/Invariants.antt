use Rattle.std.proofs.Common.{◌≡◌, ℕ, ◌<◌, length}
use Rattle.sl_sizes.specs.Nodes.{node_of, single}
use Rattle.sl_sizes.proofs.inference.singles.Given as goal

abbrev pub invariant-variables : goal.invariant-variables
invariant-variables l = record {
  count : length l.nodes.items ≡ l.variable;
  single : (v : ℕ) → v < l.variable → node_of l.nodes.items v ≡ single v;
}
