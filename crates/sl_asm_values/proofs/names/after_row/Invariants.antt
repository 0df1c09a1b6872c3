use Rattle.std.proofs.Common.{drop}
use Rattle.sl_asm_values.proofs.RowLemmas.{Leads}
use Rattle.sl_asm_values.specs.Narrowing.{IsPart}
use Rattle.sl_asm_values.proofs.names.after_row.Given as goal

abbrev pub invariant-steps : goal.invariant-steps
invariant-steps l =
    IsPart l.fn.reached.region.items l.left.region.items
    × Leads l.t l.frame l.wanted l.fn.reached l.left l.row (drop l.index l.row)
