use Rattle.std.proofs.Common.{ap, ◌∙◌}
use Rattle.std.proofs.lemmas.Result.{err_from_is_err_and}
use Rattle.sl_base_graphs.specs.Views.{graph_of}
use Rattle.sl_shape.proofs.OrderedLemmas.{first_whole, whole}
use Rattle.sl_spec.specs.Unfolded.{all_placed}
use Rattle.sl_shape.proofs.shaping.shape.Goals as goal

pub returns-in_err-shape_tables-clause-fault : goal.returns-in_err-shape_tables-clause-fault
returns-in_err-shape_tables-clause-fault c =
    let e = err_from_is_err_and c.from_residual-in_err-shape_tables.result c.from_residual-in_err-shape_tables.ensures.1 in
    let graph_is = ap graph_of c.as_slice-graph.ensures.value ∙ c.in_ok-graph.ensures in
    let fault = rw c.as_slice.ensures.value at c.in_err-shape_tables.ensures.fault in
    rw (e.1, e.2) (λ none. first_whole c.args.t.now (all_placed c.args.constructors.now) c.in_ok-order.order.items c.in_err-shape_tables.field-0.0 fault (c.in_ok-order.ensures (all_placed c.args.constructors.now) graph_is none))

pub returns-clause-shaped : goal.returns-clause-shaped
returns-clause-shaped c = λ none.
    let graph_is = ap graph_of c.as_slice-graph.ensures.value ∙ c.in_ok-graph.ensures in
    let known = rw c.as_slice.ensures.value at c.in_ok-shape_tables.ensures.known in
    whole c.args.t.now (all_placed c.args.constructors.now) c.in_ok-order.order.items c.shape_tables.new.known known (c.in_ok-order.ensures (all_placed c.args.constructors.now) graph_is none)
