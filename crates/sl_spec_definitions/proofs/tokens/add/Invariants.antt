use Rattle.std.proofs.Common.{◌≡◌, true, drop, map}
use Rattle.sl_ast.specs.Views.{field_of as seen}
use Rattle.sl_spec_rules.specs.Names.{differ_behind}
use Rattle.sl_spec_registers.proofs.FreshLemmas.{AreMade}
use Rattle.sl_spec_definitions.specs.FieldRules.{field_names, field_of}
use Rattle.sl_spec_definitions.proofs.tokens.add.Given as goal

abbrev pub invariant-fields : goal.invariant-fields
invariant-fields l = record {
  made : AreMade (field_of l.token) l.initial.fields (map seen l.given) l.fields l.index;
  left : differ_behind (map (λ f. f.name) l.fields) (field_names (drop l.index (map seen l.given))) ≡ true;
}
