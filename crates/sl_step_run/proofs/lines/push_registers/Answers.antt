use Rattle.std.proofs.Common.{refl, arith}
use Rattle.sl_spec_tables.proofs.PositionLemmas.{at_slice}
use Rattle.sl_step_run.proofs.TextLemmas.{all_written, one_written}
use Rattle.sl_step_run.specs.RunLines.{register_lines}
use Rattle.sl_step_run.specs.Told.{numbered_line}
use Rattle.sl_word.specs.Bytes.{byte_at}
use Rattle.sl_step_run.proofs.lines.push_registers.Goals as goal

pub registers-preserved : goal.registers-preserved
registers-preserved c =
    let t = c.args.tables.now in
    let m = byte_at c.args.state.now in
    let k = c.registers.number in
    let r = c.member.result.now in
    one_written (register_lines t m) (numbered_line t m) (λ k r rs. refl) (λ k. refl)
    c.args.out.now.items t.registers c.registers.out.items c.push_numbered.new.out.items k r
    (omega (arith, c.registers-test.true, c.len-number-end.ensures))
    (at_slice t.registers k r c.member.ensures) c.in_ok-push_numbered.ensures c.registers.invariant

pub returns : goal.returns
returns c =
    let t = c.args.tables.now in
    let m = byte_at c.args.state.now in
    all_written (register_lines t m) (numbered_line t m) (λ k r rs. refl) (λ k. refl)
    c.args.out.now.items t.registers c.registers.out.items c.registers.number
    (omega (arith, c.registers-test.false, c.len-number-end.ensures)) c.registers.invariant
