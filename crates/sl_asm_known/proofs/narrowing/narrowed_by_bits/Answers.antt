use Rattle.std.specs.Prelude.{option_map}
use Rattle.sl_asm_known.proofs.BitsLemmas.{field_number, left_where}
use Rattle.sl_asm_known.specs.FieldBits.{HasFieldBits, HasNumberBits}
use Rattle.sl_asm_known.proofs.narrowing.narrowed_by_bits.Goals as goal

pub returns : goal.returns
returns c =
    let t = c.args.t.now in
    let f = c.args.of.now in
    let number = c.moved_up-number.result in
    left_where (HasFieldBits t f c.args.at c.args.context c.args.bits.now) (HasNumberBits t f c.args.at c.args.context number) c.args.region.items
    (option_map (λ v. v.items) c.by_number.result)
    (λ xs inside h. field_number t f c.args.at c.args.context number c.args.bits.now c.moved_up-number.ensures.has xs h)
    c.by_number.ensures
