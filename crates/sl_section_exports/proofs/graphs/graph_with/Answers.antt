use Rattle.std.proofs.Common.{◌++◌, [], replicate, ap, ◌∙◌}
use Rattle.sl_base_graphs.specs.Views.{graph_of}
use Rattle.sl_section_exports.proofs.GraphLemmas.{none_with, with_more}
use Rattle.sl_section_exports.proofs.graphs.graph_with.Goals as goal

pub edges-init : goal.edges-init
edges-init c = c.in_ok-add_nodes.ensures ∙ ap (λ gs. graph_of gs ++ replicate c.args.count []) c.new-graph.ensures.items ∙ none_with c.args.count

pub edges-preserved : goal.edges-preserved
edges-preserved c = with_more c.args.count c.args.edges.now (graph_of c.edges.graph.items) (graph_of c.add_edge.new.graph.items) c.edges.index _ c.edges-test.true c.in_ok-add_edge.ensures c.edges.invariant
