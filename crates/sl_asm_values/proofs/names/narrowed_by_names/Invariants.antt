use Rattle.std.proofs.Common.{drop}
use Rattle.sl_asm_values.proofs.RowLemmas.{LeadsAll}
use Rattle.sl_decode_plan.specs.Rows.{all_steps}
use Rattle.sl_asm_values.proofs.names.narrowed_by_names.Given as goal

abbrev pub invariant-rows : goal.invariant-rows
invariant-rows l = LeadsAll l.t l.frame l.wanted l.fn.region l.left (all_steps l.rows) (all_steps (drop l.index l.rows))
