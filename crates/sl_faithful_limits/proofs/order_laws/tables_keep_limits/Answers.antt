use Rattle.sl_faithful_limits.proofs.Orders.{tables_keep_limits}
use Rattle.sl_faithful_limits.proofs.order_laws.tables_keep_limits.Goals as goal

pub returns : goal.returns
returns c = tables_keep_limits
