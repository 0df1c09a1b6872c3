use Rattle.std.proofs.Common.{refl}
use Rattle.sl_step_run.proofs.TextLemmas.{AreWritten}
use Rattle.sl_step_run.specs.Told.{told_line, told_lines}
use Rattle.sl_step_run.proofs.lines.push_changes.Given as goal

abbrev pub invariant-changes : goal.invariant-changes
invariant-changes l =
    AreWritten (λ k. told_lines l.tables.spaces) (λ k. told_line l.tables.spaces) (λ k c cs. refl) (λ k. refl)
    l.initial.out.items l.changes l.out.items l.change-index
