use Rattle.std.proofs.Common.{◌≡◌, drop}
use Rattle.sl_spec.specs.Named.{named}
use Rattle.sl_decode_leaves.proofs.kinds.operand_named.Given as goal

abbrev pub invariant-operands : goal.invariant-operands
invariant-operands l = named (λ o. o.name) l.name (drop l.index l.operands) ≡ named (λ o. o.name) l.name l.operands
