use Rattle.std.specs.Prelude.{[]}
use Rattle.sl_ast.specs.Views.{item_indexes}
use Rattle.sl_store_text.proofs.FirstLemmas.{IsJoined}
use Rattle.sl_store_text.proofs.firsts.first_tokens.Given as goal

abbrev pub invariant-items : goal.invariant-items
invariant-items l = IsJoined item_indexes [] l.items l.firsts.items l.index
