use Rattle.std.specs.Prelude.{map}
use Rattle.sl_spec_registers.proofs.RegisterLemmas.{AreGiven}
use Rattle.sl_spec_registers.proofs.registers.given_names.Given as goal

abbrev pub invariant-names : goal.invariant-names
invariant-names l = AreGiven (map (λ n. n.now) l.names) (map (λ n. n.now) l.given.items) l.index
