use Rattle.sl_word.specs.Bytes.{address_sizes, byte_at, endian_of}
use Rattle.sl_pcode.proofs.Operands.{has_operands_in_range, is_formed}
use Rattle.sl_pcode.specs.declared.effect.Effect.TheVariants.{CBranch}
use Rattle.sl_emu.specs.Temporaries.{temporary_bytes}
use Rattle.sl_emu.proofs.PerformLemmas.{is_cbranch, op_does_of}
use Rattle.sl_emu.proofs.PutLemmas.{near}
use Rattle.sl_emu.proofs.perform.perform_cbranch.Goals as goal

pub cbranch-then-requires-clause-near : goal.cbranch-then-requires-clause-near
cbranch-then-requires-clause-near c =
    let target = c.in-Some.target.now in
    let sizes = address_sizes c.args.state.now in
    let effect = CBranch target c.in-Some.condition.now in
    let is = is_cbranch c.args.op.now target c.in-Some.condition.now c.requires.kind c.in-Some.ensures.0 c.in-Some.ensures.1 in
    near sizes target.place target.offset target.size.bytes (is_formed sizes c.args.op.now effect c.requires.formed is).0
    (has_operands_in_range sizes c.args.op.now effect c.requires.formed is).0

pub cbranch-then-requires-clause-range : goal.cbranch-then-requires-clause-range
cbranch-then-requires-clause-range c =
    (has_operands_in_range (address_sizes c.args.state.now) c.args.op.now (CBranch c.in-Some.target.now c.in-Some.condition.now) c.requires.formed
    (is_cbranch c.args.op.now c.in-Some.target.now c.in-Some.condition.now c.requires.kind c.in-Some.ensures.0 c.in-Some.ensures.1)).1

pub returns-clause-does : goal.returns-clause-does
returns-clause-does c =
    op_does_of (endian_of c.args.state.now) (address_sizes c.args.state.now) c.args.op.now (CBranch c.in-Some.target.now c.in-Some.condition.now) (byte_at c.args.state.now) (temporary_bytes c.args.t.now)
    (byte_at c.args.state.now) (temporary_bytes c.args.t.now) c.cbranch-then.result
    (is_cbranch c.args.op.now c.in-Some.target.now c.in-Some.condition.now c.requires.kind c.in-Some.ensures.0 c.in-Some.ensures.1) c.cbranch-then.ensures
