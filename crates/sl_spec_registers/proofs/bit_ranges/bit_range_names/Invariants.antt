use Rattle.std.proofs.Common.{[], map}
use Rattle.sl_ast.specs.Views.{bit_range_of as seen}
use Rattle.sl_spec_registers.proofs.FreshLemmas.{AreMade}
use Rattle.sl_spec_registers.proofs.bit_ranges.bit_range_names.Given as goal

abbrev pub invariant-places : goal.invariant-places
invariant-places l = AreMade (λ r. r.name) [] (map seen l.given) (map (λ n. n.now) l.names.items) l.index
