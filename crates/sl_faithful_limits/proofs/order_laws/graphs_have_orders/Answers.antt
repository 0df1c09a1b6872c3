use Rattle.sl_faithful_limits.proofs.Orders.{graphs_have_orders}
use Rattle.sl_faithful_limits.proofs.order_laws.graphs_have_orders.Goals as goal

pub returns : goal.returns
returns c = graphs_have_orders
