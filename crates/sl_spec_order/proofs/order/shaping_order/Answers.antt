use Rattle.std.proofs.Common.{◌≡◌, length, get_or, ap, ◌∙◌, subst, sym}
use Rattle.sl_base_graphs.specs.Heights.{AreHeights, by_height}
use Rattle.sl_base_graphs.specs.Orders.{NoneReaches}
use Rattle.sl_base_graphs.specs.Reaching.{Graph}
use Rattle.sl_base_graphs.specs.Views.{graph_of}
use Rattle.sl_spec_order.specs.Orders.{appearing, graph}
use Rattle.sl_spec_order.proofs.order.shaping_order.Goals as goal

pub returns : goal.returns
returns c = λ none.
    let heights = c.in_ok-heights.heights.items in
    let graph_is : graph_of c.as_slice.result.now ≡ graph (length c.args.t.now.tables) c.args.t.now.constructors =
    ap graph_of c.as_slice.ensures.value ∙ c.in_ok-graph.ensures ∙ (λ k. graph (c.len.ensures k) (c.as_slice-ctors.ensures k)) in
    let appearing_is : c.as_slice-3.result.now ≡ appearing (length c.args.t.now.tables) c.args.t.now.constructors =
    c.as_slice-3.ensures.value ∙ c.in_ok-appearing.ensures ∙ (λ k. appearing (c.len-2.ensures k) (c.as_slice-ctors.ensures k)) in
    record {
      heights = heights;
      are = subst (λ (g : Graph). AreHeights g heights) graph_is (c.in_ok-heights.ensures (subst NoneReaches (sym graph_is) none));
      order_is = c.in_ok-order.ensures ∙ (λ k. by_height (λ v. get_or (c.as_slice-2.ensures.value k) v 0) (appearing_is k));
    }
