use Rattle.std.proofs.Common.{List, map, ap, ◌∙◌}
use Rattle.sl_decode_meaning.specs.Meanings.{leaves_by}
use Rattle.sl_meaning_instruction.specs.Operands.{given_reference}
use Rattle.sl_spec.specs.Tables.{Ctor, Operand}
use Rattle.sl_spec.specs.Unfolded.{placed}
use Rattle.sl_build.proofs.slots.constructor_slots.Goals as goal

pub returns-clause-slots : goal.returns-clause-slots
returns-clause-slots c bytes n lengths =
    let t = c.args.t.now in
    let pattern = (placed c.args.of.now).1.pattern in
    c.in_ok-slots.ensures.slots bytes n lengths
    ∙ ap (λ (os : List Operand). map (λ o. given_reference t bytes n (leaves_by t os pattern lengths) o.name o.means) os)
    (c.as_slice.ensures.value ∙ ap (λ (x : Ctor). x.operands) c.ctor.view_is)
