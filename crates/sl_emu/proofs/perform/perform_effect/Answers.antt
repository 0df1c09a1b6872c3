use Rattle.std.proofs.Common.{sym, ◌∙◌}
use Rattle.sl_word.specs.Bytes.{address_sizes, byte_at, endian_of}
use Rattle.sl_pcode.proofs.Operands.{has_operands_in_range}
use Rattle.sl_emu.specs.Temporaries.{temporary_bytes}
use Rattle.sl_emu.proofs.PerformLemmas.{op_does_of}
use Rattle.sl_emu.proofs.perform.perform_effect.Goals as goal

pub step-requires-clause-range : goal.step-requires-clause-range
step-requires-clause-range c =
    has_operands_in_range (address_sizes c.args.state.now) c.args.op.now c.unwrap-effect.result c.requires.formed
    (sym c.effect.ensures ∙ c.unwrap-effect.ensures)

pub returns-clause-does : goal.returns-clause-does
returns-clause-does c =
    op_does_of (endian_of c.args.state.now) (address_sizes c.args.state.now) c.args.op.now c.unwrap-effect.result (byte_at c.args.state.now) (temporary_bytes c.args.t.now)
    (byte_at c.step.new.state) (temporary_bytes c.step.new.t) c.in_ok-then.then (sym c.effect.ensures ∙ c.unwrap-effect.ensures) c.in_ok-then.ensures.does
