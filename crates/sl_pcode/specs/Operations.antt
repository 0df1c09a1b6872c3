-- view: a list of operations.
use Rattle.std.specs.Prelude.{List}
use Rattle.sl_pcode.specs.declared.list.OpList.{OpList}
use Rattle.sl_pcode.specs.declared.operation.Op.{Op}

-- The operations of a list, in order.
unfoldable pub operations : OpList → List Op
operations list = list.ops.items
