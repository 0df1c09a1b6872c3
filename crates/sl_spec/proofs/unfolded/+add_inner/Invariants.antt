use Rattle.std.specs.Prelude.{map}
use Rattle.sl_ast.specs.Views.{head_of}
use Rattle.sl_spec.specs.Numbers.{AreNumberedBelow}
use Rattle.sl_spec.specs.Unfolded.{placed}
use Rattle.sl_spec.proofs.WalkLemmas.{AreWalked}
use Rattle.sl_spec.proofs.unfolded.+add_inner.Given as goal

abbrev pub invariant-inside : goal.invariant-inside
invariant-inside l =
    AreWalked (map (λ h. head_of h.head.now) l.around.items) l.initial.number (map placed l.initial.all.items) l.inside (map placed l.all.items) l.number l.index
    × (AreNumberedBelow l.fn.number l.heads l.fn.all.items → AreNumberedBelow l.number l.around.items l.all.items)
