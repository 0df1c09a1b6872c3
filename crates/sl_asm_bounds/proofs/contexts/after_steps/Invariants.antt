use Rattle.std.proofs.Common.{drop}
use Rattle.sl_asm_bounds.proofs.ContextLemmas.{Leads}
use Rattle.sl_decode_plan.specs.Rows.{all_steps}
use Rattle.sl_asm_bounds.proofs.contexts.after_steps.Given as goal

abbrev pub invariant-rows : goal.invariant-rows
invariant-rows l = Leads l.t l.frame l.region l.fn.context l.known (all_steps l.rows) (all_steps (drop l.index l.rows))
