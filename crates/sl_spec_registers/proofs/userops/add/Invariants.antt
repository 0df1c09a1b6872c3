use Rattle.std.proofs.Common.{◌≡◌, true, drop, map}
use Rattle.sl_spec_rules.specs.Names.{differ_behind}
use Rattle.sl_spec_registers.specs.UserOps.{userop_of}
use Rattle.sl_spec_registers.proofs.FreshLemmas.{AreMade}
use Rattle.sl_spec_registers.proofs.userops.add.Given as goal

abbrev pub invariant-names : goal.invariant-names
invariant-names l = record {
  made : AreMade userop_of l.initial.userops (map (λ n. n.now) l.names) l.userops l.index;
  left : differ_behind (map (λ u. u.name) l.userops) (drop l.index (map (λ n. n.now) l.names)) ≡ true;
}
