use Rattle.std.specs.Prelude.{[], map}
use Rattle.sl_spec_actions.proofs.Folds.{IsFolded}
use Rattle.sl_spec_actions.specs.ActionNames.{with_name}
use Rattle.sl_spec_constructors.proofs.operands.operand_names.Given as goal

abbrev pub invariant-operands : goal.invariant-operands
invariant-operands l = IsFolded with_name [] (map (λ o. o.name) l.operands) l.names l.index
