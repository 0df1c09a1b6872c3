use Rattle.sl_word.specs.Bytes.{address_sizes, byte_at, endian_of}
use Rattle.sl_pcode.proofs.Operands.{has_operands_in_range, is_formed}
use Rattle.sl_pcode.specs.declared.effect.Effect.TheVariants.{Binary}
use Rattle.sl_emu.specs.Temporaries.{temporary_bytes}
use Rattle.sl_emu.proofs.PerformLemmas.{is_binary, op_does_of}
use Rattle.sl_emu.proofs.perform.perform_binary.Goals as goal

pub binary-requires-clause-formed : goal.binary-requires-clause-formed
binary-requires-clause-formed c =
    is_formed (address_sizes c.args.state.now) c.args.op.now (Binary c.args.f c.in-Some.out.now c.in-Some.a.now c.in-Some.b.now) c.requires.formed
    (is_binary c.args.op.now c.args.f c.in-Some.out.now c.in-Some.a.now c.in-Some.b.now c.requires.kind c.in-Some.ensures.0 c.in-Some.ensures.1)

pub binary-requires-clause-out : goal.binary-requires-clause-out
binary-requires-clause-out c =
    (has_operands_in_range (address_sizes c.args.state.now) c.args.op.now (Binary c.args.f c.in-Some.out.now c.in-Some.a.now c.in-Some.b.now) c.requires.formed
    (is_binary c.args.op.now c.args.f c.in-Some.out.now c.in-Some.a.now c.in-Some.b.now c.requires.kind c.in-Some.ensures.0 c.in-Some.ensures.1)).0

pub binary-requires-clause-first : goal.binary-requires-clause-first
binary-requires-clause-first c =
    (has_operands_in_range (address_sizes c.args.state.now) c.args.op.now (Binary c.args.f c.in-Some.out.now c.in-Some.a.now c.in-Some.b.now) c.requires.formed
    (is_binary c.args.op.now c.args.f c.in-Some.out.now c.in-Some.a.now c.in-Some.b.now c.requires.kind c.in-Some.ensures.0 c.in-Some.ensures.1)).1

pub binary-requires-clause-second : goal.binary-requires-clause-second
binary-requires-clause-second c =
    (has_operands_in_range (address_sizes c.args.state.now) c.args.op.now (Binary c.args.f c.in-Some.out.now c.in-Some.a.now c.in-Some.b.now) c.requires.formed
    (is_binary c.args.op.now c.args.f c.in-Some.out.now c.in-Some.a.now c.in-Some.b.now c.requires.kind c.in-Some.ensures.0 c.in-Some.ensures.1)).2

pub returns-clause-does : goal.returns-clause-does
returns-clause-does c =
    op_does_of (endian_of c.args.state.now) (address_sizes c.args.state.now) c.args.op.now (Binary c.args.f c.in-Some.out.now c.in-Some.a.now c.in-Some.b.now) (byte_at c.args.state.now) (temporary_bytes c.args.t.now)
    (byte_at c.binary.new.state) (temporary_bytes c.binary.new.t) c.in_ok-then.then
    (is_binary c.args.op.now c.args.f c.in-Some.out.now c.in-Some.a.now c.in-Some.b.now c.requires.kind c.in-Some.ensures.0 c.in-Some.ensures.1) c.in_ok-then.ensures.does
