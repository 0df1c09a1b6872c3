use Rattle.sl_section_exports.specs.Views.{rows_of}
use Rattle.sl_section_exports.proofs.MisusedLemmas.{breaks_by}
use Rattle.sl_section_exports.proofs.RowLemmas.{IsNotBefore}
use Rattle.sl_section_exports.proofs.misused.first_broken.Given as goal

abbrev pub invariant-rows : goal.invariant-rows
invariant-rows l = IsNotBefore (breaks_by l.assigned l.constants l.no_target) (rows_of l.rows) l.index
