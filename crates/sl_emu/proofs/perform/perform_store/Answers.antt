use Rattle.sl_word.specs.Bytes.{address_sizes, byte_at, endian_of}
use Rattle.sl_pcode.proofs.Operands.{has_operands_in_range, is_formed}
use Rattle.sl_pcode.specs.declared.effect.Effect.TheVariants.{Store}
use Rattle.sl_emu.specs.Temporaries.{temporary_bytes}
use Rattle.sl_emu.proofs.PerformLemmas.{is_store, op_does_of}
use Rattle.sl_emu.proofs.perform.perform_store.Goals as goal

pub store-requires-clause-formed : goal.store-requires-clause-formed
store-requires-clause-formed c =
    is_formed (address_sizes c.args.state.now) c.args.op.now (Store c.in-Some.space.now c.in-Some.pointer.now c.in-Some.value.now) c.requires.formed
    (is_store c.args.op.now c.in-Some.space.now c.in-Some.pointer.now c.in-Some.value.now c.requires.kind c.in-Some.ensures.0 c.in-Some.ensures.1)

pub store-requires-clause-pointer : goal.store-requires-clause-pointer
store-requires-clause-pointer c =
    (has_operands_in_range (address_sizes c.args.state.now) c.args.op.now (Store c.in-Some.space.now c.in-Some.pointer.now c.in-Some.value.now) c.requires.formed
    (is_store c.args.op.now c.in-Some.space.now c.in-Some.pointer.now c.in-Some.value.now c.requires.kind c.in-Some.ensures.0 c.in-Some.ensures.1)).0

pub store-requires-clause-value : goal.store-requires-clause-value
store-requires-clause-value c =
    (has_operands_in_range (address_sizes c.args.state.now) c.args.op.now (Store c.in-Some.space.now c.in-Some.pointer.now c.in-Some.value.now) c.requires.formed
    (is_store c.args.op.now c.in-Some.space.now c.in-Some.pointer.now c.in-Some.value.now c.requires.kind c.in-Some.ensures.0 c.in-Some.ensures.1)).1

pub returns-clause-does : goal.returns-clause-does
returns-clause-does c =
    op_does_of (endian_of c.args.state.now) (address_sizes c.args.state.now) c.args.op.now (Store c.in-Some.space.now c.in-Some.pointer.now c.in-Some.value.now) (byte_at c.args.state.now) (temporary_bytes c.args.t.now)
    (byte_at c.store.new.state) (temporary_bytes c.args.t.now) c.in_ok-then.then
    (is_store c.args.op.now c.in-Some.space.now c.in-Some.pointer.now c.in-Some.value.now c.requires.kind c.in-Some.ensures.0 c.in-Some.ensures.1) c.in_ok-then.ensures.does
