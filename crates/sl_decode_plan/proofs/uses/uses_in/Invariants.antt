use Rattle.std.specs.Prelude.{List}
use Rattle.std.specs.List.{AllByRecursion}
use Rattle.sl_ast.specs.Views.{action_of}
use Rattle.sl_decode_plan.specs.Uses.{IsSameAction, ReadAsBefore}
use Rattle.sl_decode_leaves.specs.declared.leaves.Leaf as l
use Rattle.sl_decode_leaves.proofs.TiedLemmas.{IsLeft}
use Rattle.sl_spec.specs.Tables.{Operand}
use Rattle.sl_decode_plan.proofs.uses.uses_in.Given as goal

abbrev pub invariant-actions : goal.invariant-actions
invariant-actions h = ReadAsBefore h.t h.operands h.leaves h.all
    × ((those : List Operand) (ms : List l.Leaf) → ReadAsBefore h.t those ms h.all
    → IsLeft (λ a. IsSameAction h.t h.operands h.leaves (action_of a) those ms) h.actions (AllByRecursion (λ a. IsSameAction h.t h.operands h.leaves (action_of a) those ms) h.actions) h.index)
