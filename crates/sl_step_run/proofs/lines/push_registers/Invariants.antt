use Rattle.std.proofs.Common.{refl}
use Rattle.sl_step_run.proofs.TextLemmas.{AreWritten}
use Rattle.sl_step_run.specs.RunLines.{register_lines}
use Rattle.sl_step_run.specs.Told.{numbered_line}
use Rattle.sl_word.specs.Bytes.{byte_at}
use Rattle.sl_step_run.proofs.lines.push_registers.Given as goal

abbrev pub invariant-registers : goal.invariant-registers
invariant-registers l =
    AreWritten (register_lines l.tables (byte_at l.state)) (numbered_line l.tables (byte_at l.state)) (λ k r rs. refl)
    (λ k. refl)
    l.initial.out.items l.tables.registers l.out.items l.number
