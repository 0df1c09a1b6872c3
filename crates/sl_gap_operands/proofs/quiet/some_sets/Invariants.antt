use Rattle.std.proofs.Common.{◌≡◌}
use Rattle.sl_gap_operands.specs.Operands.{sets_context}
use Rattle.sl_gap_operands.proofs.QuietLemmas.{any_from}
use Rattle.sl_gap_operands.proofs.quiet.some_sets.Given as goal

abbrev pub invariant-actions : goal.invariant-actions
invariant-actions l = any_from (sets_context l.t l.operands) l.actions l.index ≡ any_from (sets_context l.t l.operands) l.actions 0
