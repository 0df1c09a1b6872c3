use Rattle.std.proofs.Common.{sym, subst}
use Rattle.sl_base_graphs.specs.Searches.{IsStep}
use Rattle.sl_base_graphs.specs.States.{State}
use Rattle.sl_base_graphs.specs.Views.{graph_of}
use Rattle.sl_base_graphs.proofs.Stepping.{goes_on}
use Rattle.sl_base_graphs.proofs.search.Search.step.Goals as goal

pub returns-in_ok-close-in-None : goal.returns-in_ok-close-in-None
returns-in_ok-close-in-None c =
    let g = graph_of c.args.graph.now in
    let s = c.args.self.now in
    subst (λ (t : State). IsStep g s t) (sym c.in_ok-close-in-None.ensures) (goes_on g s c.requires.search c.requires.some c.in-None.ensures)
