use Rattle.std.proofs.Common.{◌≡◌, length, sym, ap, subst, arith}
use Rattle.std.proofs.lemmas.List.{length-map}
use Rattle.sl_base_graphs.specs.Searches.{IsSearch}
use Rattle.sl_base_graphs.specs.States.{State, beginning}
use Rattle.sl_base_graphs.specs.Views.{graph_of}
use Rattle.sl_base_graphs.proofs.Ending.{begins, ends, one_seen}
use Rattle.sl_base_graphs.proofs.Seen.{items}
use Rattle.sl_base_graphs.proofs.search.searched.Goals as goal

pub roots-init : goal.roots-init
roots-init c =
    let g = graph_of c.args.graph.now in
    let e : c.in_ok-search.search ≡ beginning g = c.in_ok-search.ensures in
    record {
      search = subst (λ (s : State). IsSearch g s) (sym e) (begins g);
      empty = ap (λ (s : State). length s.stack) e;
      seen = λ v below. absurd (omega arith);
    }

pub roots-preserved : goal.roots-preserved
roots-preserved c =
    let further = c.in_ok-explore.ensures in
    record {
      search = further.search;
      empty = further.empty;
      seen = one_seen (graph_of c.args.graph.now) c.roots.search c.explore.new.self c.roots.root further c.roots.invariant.seen;
    }

pub returns : goal.returns
returns c =
    ends (graph_of c.args.graph.now) c.roots.search c.roots.root (omega (arith, length-map c.args.graph.now items, c.roots-test.false)) c.roots.invariant.search c.roots.invariant.empty c.roots.invariant.seen
