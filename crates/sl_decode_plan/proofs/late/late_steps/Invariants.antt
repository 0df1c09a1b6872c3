use Rattle.std.proofs.Common.{drop}
use Rattle.sl_ast.specs.Views.{actions_of}
use Rattle.sl_decode_meaning.specs.Actions.{tell}
use Rattle.sl_decode_meaning.specs.Values.{Site}
use Rattle.sl_decode_leaves.specs.Extents.{leaves_at}
use Rattle.sl_decode_plan.specs.Steps.{late_step}
use Rattle.sl_decode_leaves.proofs.RunLemmas.{IsFront}
use Rattle.sl_decode_plan.proofs.late.late_steps.Given as goal

abbrev pub invariant-actions : goal.invariant-actions
invariant-actions l = (s : Site) → IsFront (tell l.t l.operands (leaves_at s.lengths l.leaves) s) (late_step l.t s) (actions_of l.actions) (actions_of (drop l.index l.actions)) l.all.items
