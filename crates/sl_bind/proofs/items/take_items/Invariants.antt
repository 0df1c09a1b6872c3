use Rattle.std.specs.Prelude.{map}
use Rattle.sl_ast.specs.Views.{item_of}
use Rattle.sl_bind.specs.Verdict.{placed_step}
use Rattle.sl_bind.proofs.ItemLemmas.{AreTaken}
use Rattle.sl_bind.proofs.items.take_items.Given as goal

abbrev pub invariant-items : goal.invariant-items
invariant-items l = AreTaken (placed_step l.whole) l.initial.progress (map item_of l.items) l.progress l.number l.index
