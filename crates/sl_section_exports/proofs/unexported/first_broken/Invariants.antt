use Rattle.std.proofs.Common.{◌&&◌, Bool, not}
use Rattle.sl_section_equations.specs.Uses.{each_used_passes, flag}
use Rattle.sl_section_exports.specs.Exports.{Row, operand_flags}
use Rattle.sl_section_exports.specs.Spreads.{mark_of}
use Rattle.sl_section_exports.specs.Views.{rows_of}
use Rattle.sl_section_exports.proofs.RowLemmas.{IsNotBefore}
use Rattle.sl_section_exports.proofs.unexported.first_broken.Given as goal

abbrev pub invariant-rows : goal.invariant-rows
invariant-rows l =
    let test : Row → Bool = λ r. not (not (mark_of l.exporting r.0.0.table && mark_of l.silent r.0.0.table)
    && each_used_passes (flag (operand_flags (mark_of l.exporting) r.0.0)) r.1) in
    IsNotBefore test (rows_of l.rows) l.index
