use Rattle.std.proofs.Common.{◌≡◌, true, drop}
use Rattle.std.specs.Prelude.{map}
use Rattle.sl_spec_rules.specs.Names.{differ_behind}
use Rattle.sl_spec_registers.specs.RegisterRules.{given_names}
use Rattle.sl_spec_registers.proofs.RegisterLemmas.{AreLaid}
use Rattle.sl_spec_registers.proofs.registers.lay.Given as goal

abbrev pub invariant-places : goal.invariant-places
invariant-places l = record {
  laid : AreLaid l.space l.offset l.size.bytes (map (λ n. n.now) l.names) l.initial.registers l.registers l.place;
  left : differ_behind (map (λ r. r.name) l.registers) (given_names (drop l.place (map (λ n. n.now) l.names))) ≡ true;
}
