use Rattle.std.proofs.Common.{ℕ, ap, subst, ◌∙◌}
use Rattle.std.specs.Prelude.{Option, option_map, slice_get}
use Rattle.sl_asm_bits.specs.declared.Known.{Known}
use Rattle.sl_asm_known.specs.FieldBits.{HasSomeBits}
use Rattle.sl_asm_narrow.proofs.SpotLemmas.{field_left, field_long, field_nowhere, no_field}
use Rattle.sl_show.specs.Texts.{field_text_by}
use Rattle.sl_spec.specs.Attachments.{attached_to}
use Rattle.sl_asm_narrow.proofs.spots.by_field.Goals as goal

pub returns-in_default-clause-keeps : goal.returns-in_default-clause-keeps
returns-in_default-clause-keeps c = no_field c.args.t.now c.args.id c.args.at c.args.context c.args.text.now c.args.region.items

pub returns-in_default-known-clause-keeps : goal.returns-in_default-known-clause-keeps
returns-in_default-known-clause-keeps c =
    let t = c.args.t.now in
    let f = c.in-Some.of.now in
    let is = c.in-Some.ensures ∙ ap (λ (n : ℕ). slice_get t.fields n) c.number.ensures in
    field_nowhere t c.args.id f c.args.at c.args.context c.args.text.now c.args.region.items c.requires is
    (λ n shows. subst (λ (o : Option Known). HasSomeBits f o n) c.in_default-known.is (c.in_ok-known.ensures n shows))

pub returns-clause-keeps : goal.returns-clause-keeps
returns-clause-keeps c =
    let t = c.args.t.now in
    let f = c.in-Some.of.now in
    let is = c.in-Some.ensures ∙ ap (λ (n : ℕ). slice_get t.fields n) c.number.ensures in
    field_left t c.args.id f c.args.at c.args.context c.args.text.now c.args.region.items c.requires is c.in-Some-known.bits
    (option_map (λ v. v.items) c.narrowed_by_bits.result)
    (λ n shows. subst (λ (o : Option Known). HasSomeBits f o n) c.in-Some-known.is (c.in_ok-known.ensures n shows)) (rw c.from.ensures at c.narrowed_by_bits.ensures)

pub returns-clause-long : goal.returns-clause-long
returns-clause-long c =
    let t = c.args.t.now in
    let f = c.in-Some.of.now in
    let is = c.in-Some.ensures ∙ ap (λ (n : ℕ). slice_get t.fields n) c.number.ensures in
    field_long t c.args.id f c.args.at c.args.context c.args.text.now c.args.region.items c.requires is c.in-Some-known.bits
    (option_map (λ v. v.items) c.narrowed_by_bits.result) (rw c.from.ensures at c.narrowed_by_bits.ensures)
