use Rattle.sl_ast.specs.Views.{constructor_of}
use Rattle.sl_decode_leaves.specs.Blocks.{AreLeavesOfHead}
use Rattle.sl_decode_leaves.proofs.WholeLemmas.{IsWith, inside}
use Rattle.sl_spec.specs.Numbers.{KeepsMade}
use Rattle.sl_decode_leaves.proofs.blocks.whole_of.Given as goal

abbrev pub invariant-heads : goal.invariant-heads
invariant-heads l = IsWith l.t l.operands l.whole (inside l.t l.operands (constructor_of l.of.own.now) l.heads l.index)
    (inside l.t l.operands (constructor_of l.of.own.now) l.heads 0)
    × KeepsMade (AreLeavesOfHead l.t) l.heads l.initial.made l.made
