use Rattle.std.proofs.Common.{◌≡◌, true, drop, map}
use Rattle.sl_spec.specs.Views.{entries_of}
use Rattle.sl_spec_registers.proofs.FreshLemmas.{AreMade}
use Rattle.sl_spec_definitions.specs.AttachRules.{are_open, attachment}
use Rattle.sl_spec_definitions.proofs.attached.add.Given as goal

abbrev pub invariant-names : goal.invariant-names
invariant-names l = record {
  made : AreMade (attachment l.fields (entries_of l.entries.value)) l.initial.attached (map (λ n. n.now) l.names) l.attached l.index;
  left : are_open l.fields l.attached (drop l.index (map (λ n. n.now) l.names)) ≡ true;
}
