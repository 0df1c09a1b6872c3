use Rattle.std.proofs.Common.{◌≡◌, length}
use Rattle.sl_base_graphs.specs.Searches.{HasSeen, IsSearch}
use Rattle.sl_base_graphs.specs.Views.{graph_of}
use Rattle.sl_base_graphs.proofs.search.searched.Given as goal

abbrev pub invariant-roots : goal.invariant-roots
invariant-roots l = record {
  search : IsSearch (graph_of l.graph) l.search;
  empty : length l.search.stack ≡ 0;
  seen : HasSeen l.search l.root;
}
