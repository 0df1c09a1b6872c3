use Rattle.std.proofs.Common.{List, ℕ, length, get_or, sym, ap, ◌∙◌, arith}
use Rattle.sl_base_graphs.proofs.Seen.{read_node}
use Rattle.sl_base_graphs.proofs.search.successor.Goals as goal

pub bounds-successors-index : goal.bounds-successors-index
bounds-successors-index c =
    let e = read_node c.args.graph.now c.args.node c.index-graph-node.result c.requires.node c.index-graph-node.is in
    let v = c.as_slice-successors.ensures.value in
    let l = ap length (e ∙ sym v) in
    omega (arith, c.requires.inside)

pub returns : goal.returns
returns c =
    let e = read_node c.args.graph.now c.args.node c.index-graph-node.result c.requires.node c.index-graph-node.is in
    ap (λ (l : List ℕ). get_or l c.args.index 0) (c.as_slice-successors.ensures.value ∙ sym e)
