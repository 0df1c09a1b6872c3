use Rattle.sl_word.specs.Bytes.{address_sizes, byte_at, endian_of}
use Rattle.sl_pcode.proofs.Operands.{has_operands_in_range, is_formed}
use Rattle.sl_pcode.specs.declared.effect.Effect.TheVariants.{Unary}
use Rattle.sl_emu.specs.Temporaries.{temporary_bytes}
use Rattle.sl_emu.specs.declared.step.Then.TheVariants.{Next}
use Rattle.sl_emu.proofs.PerformLemmas.{is_unary, op_does_of}
use Rattle.sl_emu.proofs.perform.perform_unary.Goals as goal

pub unary-requires-clause-formed : goal.unary-requires-clause-formed
unary-requires-clause-formed c =
    is_formed (address_sizes c.args.state.now) c.args.op.now (Unary c.args.f c.in-Some.out.now c.in-Some.a.now) c.requires.formed
    (is_unary c.args.op.now c.args.f c.in-Some.out.now c.in-Some.a.now c.requires.kind c.in-Some.ensures.0 c.in-Some.ensures.1)

pub unary-requires-clause-out : goal.unary-requires-clause-out
unary-requires-clause-out c =
    (has_operands_in_range (address_sizes c.args.state.now) c.args.op.now (Unary c.args.f c.in-Some.out.now c.in-Some.a.now) c.requires.formed
    (is_unary c.args.op.now c.args.f c.in-Some.out.now c.in-Some.a.now c.requires.kind c.in-Some.ensures.0 c.in-Some.ensures.1)).0

pub unary-requires-clause-range : goal.unary-requires-clause-range
unary-requires-clause-range c =
    (has_operands_in_range (address_sizes c.args.state.now) c.args.op.now (Unary c.args.f c.in-Some.out.now c.in-Some.a.now) c.requires.formed
    (is_unary c.args.op.now c.args.f c.in-Some.out.now c.in-Some.a.now c.requires.kind c.in-Some.ensures.0 c.in-Some.ensures.1)).1

pub returns-clause-does : goal.returns-clause-does
returns-clause-does c =
    op_does_of (endian_of c.args.state.now) (address_sizes c.args.state.now) c.args.op.now (Unary c.args.f c.in-Some.out.now c.in-Some.a.now) (byte_at c.args.state.now) (temporary_bytes c.args.t.now)
    (byte_at c.unary.new.state) (temporary_bytes c.unary.new.t) Next
    (is_unary c.args.op.now c.args.f c.in-Some.out.now c.in-Some.a.now c.requires.kind c.in-Some.ensures.0 c.in-Some.ensures.1)
    (record { runs = λ next jump leave fault. c.in_ok-unary.ensures.put next; steady = tt })
