use Rattle.std.proofs.Common.{ℕ, Option, Some, ap, ◌∙◌}
use Rattle.std.specs.Prelude.{option_map, slice_get}
use Rattle.sl_asm_known.proofs.BitsLemmas.{field_number, keeps_all, left_where, own_bits}
use Rattle.sl_asm_known.specs.FieldBits.{GivesOwn, HasNumberBits}
use Rattle.sl_asm_known.proofs.narrowing.narrowed_by_own.Goals as goal

pub returns-in_default : goal.returns-in_default
returns-in_default c = keeps_all (GivesOwn c.args.t.now c.args.frame.now c.args.id c.args.place.now c.args.wanted.now) c.args.region.items

pub returns : goal.returns
returns c =
    let t = c.args.t.now in
    let frame = c.args.frame.now in
    let wanted = c.args.wanted.now in
    let f = c.in-Some.of.now in
    let number = c.moved_up-number.result in
    let at = c.place_of-at.result in
    let is = c.in-Some.ensures ∙ ap (λ (n : ℕ). slice_get t.fields n) c.number.ensures in
    left_where (GivesOwn t frame c.args.id c.args.place.now wanted) (HasNumberBits t f at (Some frame.context) number) c.args.region.items
    (option_map (λ v. v.items) c.by_number.result)
    (λ xs inside gives. field_number t f at (Some frame.context) number wanted c.moved_up-number.ensures.has xs
    (own_bits t frame c.args.id c.args.place.now wanted f at xs is c.moved_up-number.ensures.some c.moved_up-number.ensures.most c.place_of-at.ensures gives))
    c.by_number.ensures
