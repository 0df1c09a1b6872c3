use Rattle.std.proofs.Common.{map}
use Rattle.sl_ast.specs.Views.{field_of as seen}
use Rattle.sl_spec_registers.proofs.FreshLemmas.{AreMade}
use Rattle.sl_spec_definitions.proofs.tokens.add_names.Given as goal

abbrev pub invariant-fields : goal.invariant-fields
invariant-fields l = AreMade (λ f. f.name) (map (λ n. n.now) l.initial.names.items) (map seen l.fields) (map (λ n. n.now) l.names.items) l.index
