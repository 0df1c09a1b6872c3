use Rattle.std.proofs.Common.{drop}
use Rattle.sl_asm_bounds.proofs.ContextLemmas.{Leads}
use Rattle.sl_asm_bounds.proofs.contexts.after_row.Given as goal

abbrev pub invariant-steps : goal.invariant-steps
invariant-steps l = Leads l.t l.frame l.region l.fn.context l.known l.row (drop l.index l.row)
