use Rattle.std.specs.Prelude.{map}
use Rattle.sl_spec_registers.proofs.FreshLemmas.{AreMade}
use Rattle.sl_spec_constructors.specs.Operands.{bare_operand}
use Rattle.sl_spec_constructors.proofs.operands.add_bare_operands.Given as goal

abbrev pub invariant-bare : goal.invariant-bare
invariant-bare l = AreMade (bare_operand l.fields l.tables) l.initial.all.items (map (λ n. n.now) l.bare) l.all.items l.index
