use Rattle.sl_word.specs.Bytes.{address_sizes, byte_at, endian_of}
use Rattle.sl_pcode.proofs.Operands.{has_operands_in_range, is_formed}
use Rattle.sl_pcode.specs.declared.effect.Effect.TheVariants.{Load}
use Rattle.sl_emu.specs.Temporaries.{temporary_bytes}
use Rattle.sl_emu.proofs.PerformLemmas.{is_load, op_does_of}
use Rattle.sl_emu.proofs.perform.perform_load.Goals as goal

pub load-requires-clause-formed : goal.load-requires-clause-formed
load-requires-clause-formed c =
    is_formed (address_sizes c.args.state.now) c.args.op.now (Load c.in-Some.out.now c.in-Some.space.now c.in-Some.pointer.now) c.requires.formed
    (is_load c.args.op.now c.in-Some.out.now c.in-Some.space.now c.in-Some.pointer.now c.requires.kind c.in-Some.ensures.0 c.in-Some.ensures.1)

pub load-requires-clause-out : goal.load-requires-clause-out
load-requires-clause-out c =
    (has_operands_in_range (address_sizes c.args.state.now) c.args.op.now (Load c.in-Some.out.now c.in-Some.space.now c.in-Some.pointer.now) c.requires.formed
    (is_load c.args.op.now c.in-Some.out.now c.in-Some.space.now c.in-Some.pointer.now c.requires.kind c.in-Some.ensures.0 c.in-Some.ensures.1)).0

pub load-requires-clause-range : goal.load-requires-clause-range
load-requires-clause-range c =
    (has_operands_in_range (address_sizes c.args.state.now) c.args.op.now (Load c.in-Some.out.now c.in-Some.space.now c.in-Some.pointer.now) c.requires.formed
    (is_load c.args.op.now c.in-Some.out.now c.in-Some.space.now c.in-Some.pointer.now c.requires.kind c.in-Some.ensures.0 c.in-Some.ensures.1)).1

pub returns-clause-does : goal.returns-clause-does
returns-clause-does c =
    op_does_of (endian_of c.args.state.now) (address_sizes c.args.state.now) c.args.op.now (Load c.in-Some.out.now c.in-Some.space.now c.in-Some.pointer.now) (byte_at c.args.state.now) (temporary_bytes c.args.t.now)
    (byte_at c.load.new.state) (temporary_bytes c.load.new.t) c.in_ok-then.then
    (is_load c.args.op.now c.in-Some.out.now c.in-Some.space.now c.in-Some.pointer.now c.requires.kind c.in-Some.ensures.0 c.in-Some.ensures.1) c.in_ok-then.ensures.does
