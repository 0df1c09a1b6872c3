use Rattle.std.proofs.Common.{ap, sym, subst, ◌∙◌}
use Rattle.sl_decode.specs.Outcomes.{Fails}
use Rattle.sl_decode.specs.Walks.{walk_of}
use Rattle.sl_decode.proofs.ReadLemmas.{decoded_as}
use Rattle.sl_decode.proofs.disassembler.Disassembler.decode_into.Goals as goal

pub returns-in-Ok : goal.returns-in-Ok
returns-in-Ok g c = λ t constructors stands.
    let d = c.args.self.now in
    ap walk_of (decoded_as (g.C.Choose.chosen d.choosers) t d.tables.now constructors d.plans.items c.as_slice.result.now c.args.bytes.now c.args.address c.args.context
    stands.tables c.as_slice.ensures.value stands.plans)
    ∙ c.in-Ok.ensures

pub returns-in-Err : goal.returns-in-Err
returns-in-Err g c = λ t constructors stands.
    let d = c.args.self.now in
    subst (Fails c.in-Err.error) (sym (ap walk_of (decoded_as (g.C.Choose.chosen d.choosers) t d.tables.now constructors d.plans.items c.as_slice.result.now c.args.bytes.now c.args.address c.args.context
    stands.tables c.as_slice.ensures.value stands.plans)))
    c.in-Err.ensures
