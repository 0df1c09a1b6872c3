use Rattle.std.proofs.Common.{◌≡◌}
use Rattle.sl_ast.specs.Views.{constructor_of}
use Rattle.sl_gap_operands.specs.Operands.{sets_context}
use Rattle.sl_gap_operands.proofs.QuietLemmas.{any_inside}
use Rattle.sl_gap_operands.proofs.quiet.sets_some.Given as goal

abbrev pub invariant-heads : goal.invariant-heads
invariant-heads l = any_inside (sets_context l.t l.operands) (constructor_of l.of.own.now) l.heads l.index
    ≡ any_inside (sets_context l.t l.operands) (constructor_of l.of.own.now) l.heads 0
