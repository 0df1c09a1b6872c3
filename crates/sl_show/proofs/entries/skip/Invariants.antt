use Rattle.std.proofs.Common.{◌≡◌, ◌≤◌, ℤ, List, length}
use Rattle.sl_decode_meaning.specs.Trees.{Node, Trees}
use Rattle.sl_show.specs.Entries.{from_tree, rows, rows_of}
use Rattle.sl_show.proofs.entries.skip.Given as goal

abbrev pub invariant-trees : goal.invariant-trees
invariant-trees l = record {
  trees : (values : List ℤ) (f : Trees Node) → rows_of values l.nodes ≡ rows f → rows_of values l.rest ≡ rows (from_tree l.counter f);
  within : length l.rest ≤ length l.nodes;
}
