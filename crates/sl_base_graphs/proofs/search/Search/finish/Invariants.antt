use Rattle.std.proofs.Common.{◌≢◌, ℕ}
use Rattle.sl_base_graphs.specs.Searches.{IsSearch}
use Rattle.sl_base_graphs.specs.States.{place_of, work}
use Rattle.sl_base_graphs.specs.Views.{graph_of}
use Rattle.sl_base_graphs.specs.declared.search.Place.TheVariants.{Unseen}
use Rattle.sl_base_graphs.proofs.search.Search.finish.Given as goal

abbrev pub invariant-open : goal.invariant-open
invariant-open l = record {
  search : IsSearch (graph_of l.graph) l.self;
  seen : (v : ℕ) → place_of l.initial.self v ≢ Unseen → place_of l.self v ≢ Unseen;
}

abbrev pub decreases-open : goal.decreases-open
decreases-open l = work l.self
