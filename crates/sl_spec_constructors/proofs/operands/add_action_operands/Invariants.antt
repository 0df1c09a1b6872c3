use Rattle.std.specs.Prelude.{◌≡◌, ◌++◌, drop}
use Rattle.sl_spec_constructors.specs.Operands.{action_operands}
use Rattle.sl_spec_constructors.proofs.operands.add_action_operands.Given as goal

abbrev pub invariant-given : goal.invariant-given
invariant-given l = l.all.items ++ action_operands l.index (drop l.index l.given) ≡ l.initial.all.items ++ action_operands 0 l.given
