use Rattle.std.proofs.Common.{◌≡◌, ◌++◌, take}
use Rattle.sl_list_pcode.specs.Names.{op_lines}
use Rattle.sl_list_pcode.proofs.lines.push_ops.Given as goal

abbrev pub invariant-ops : goal.invariant-ops
invariant-ops l = l.out.items ≡ l.initial.out.items ++ op_lines l.names (take l.op-index l.ops)
