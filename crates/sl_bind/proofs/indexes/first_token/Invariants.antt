use Rattle.std.specs.Prelude.{[]}
use Rattle.sl_ast.specs.Views.{item_indexes}
use Rattle.sl_spec_rules.proofs.Gathers.{IsGathered}
use Rattle.sl_bind.proofs.indexes.first_token.Given as goal

abbrev pub invariant-items : goal.invariant-items
invariant-items l = IsGathered item_indexes [] l.items l.all l.index
