use Rattle.sl_ast.specs.Views.{constructor_of}
use Rattle.sl_decode_plan.proofs.StepLemmas.{AreBegun, acts_inside}
use Rattle.sl_decode_plan.proofs.action_steps.steps_of.Given as goal

abbrev pub invariant-heads : goal.invariant-heads
invariant-heads l = AreBegun l.t l.operands l.leaves l.all (acts_inside l.t l.operands l.leaves (constructor_of l.of.own.now) l.heads l.index)
    (acts_inside l.t l.operands l.leaves (constructor_of l.of.own.now) l.heads 0)
