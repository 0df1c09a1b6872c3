use Rattle.std.proofs.Common.{List, map, ap, ◌∙◌, arith, Option}
use Rattle.std.proofs.lemmas.List.{take_all}
use Rattle.sl_build.specs.Views.{slot_reference}
use Rattle.sl_meaning_instruction.specs.Operands.{given_reference}
use Rattle.sl_meaning_sections.specs.References.{Reference}
use Rattle.sl_decode_leaves.specs.Extents.{leaves_at}
use Rattle.sl_spec.specs.Tables.{Operand}
use Rattle.sl_spec_tables.proofs.RowLemmas.{made_more}
use Rattle.sl_build.proofs.slots.slots_by.Goals as goal

pub operands-preserved : goal.operands-preserved
operands-preserved c t bytes n lengths =
    let means : Operand → Option Reference = λ o. given_reference t bytes n (leaves_at lengths c.args.leaves.now) o.name o.means in
    let seen = slot_reference t bytes n lengths in
    ap (map seen) c.in_ok-push.ensures.items
    ∙ made_more seen means c.args.operands.now c.operands.slots.items c.in_ok-slot.slot c.index-operands-index.result c.operands.index c.operands-test.true c.index-operands-index.is
    (c.in_ok-slot.ensures t bytes n lengths) (c.operands.invariant t bytes n lengths)

pub returns : goal.returns
returns c t bytes n lengths =
    let means : Operand → Option Reference = λ o. given_reference t bytes n (leaves_at lengths c.args.leaves.now) o.name o.means in
    c.operands.invariant t bytes n lengths ∙ ap (map means) (take_all c.operands.index c.args.operands.now (omega (arith, c.operands-test.false)))
