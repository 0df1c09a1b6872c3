use Rattle.std.specs.Prelude.{[], map}
use Rattle.sl_ast.specs.Views.{item_of}
use Rattle.sl_spec.specs.Numbers.{AreNumberedBelow}
use Rattle.sl_spec.specs.Unfolded.{placed}
use Rattle.sl_spec.proofs.WalkLemmas.{AreGathered}
use Rattle.sl_spec.proofs.unfolded.unfolded_constructors.Given as goal

abbrev pub invariant-items : goal.invariant-items
invariant-items l =
    AreGathered (map item_of l.items) (map placed l.all.items) l.number l.index × AreNumberedBelow l.number [] l.all.items
