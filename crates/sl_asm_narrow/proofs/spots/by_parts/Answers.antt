use Rattle.std.proofs.Common.{Option, Vec, Global, length, refl, subst, sym, ◌∙◌}
use Rattle.std.specs.Prelude.{option_map}
use Rattle.std.proofs.lemmas.Bool.{ltb-true}
use Rattle.std.proofs.lemmas.Option.{slice_get_read}
use Rattle.sl_asm_bounds.specs.Bounds.{IsAsLong}
use Rattle.sl_asm_fit.specs.declared.Cell.{Cell}
use Rattle.sl_asm_narrow.proofs.SpotLemmas.{stay_narrow, stay_nowhere}
use Rattle.sl_asm_narrow.specs.Spots.{KeepsPart}
use Rattle.sl_asm_narrow.proofs.spots.by_parts.Goals as goal

pub returns-in_default-narrow-clause-keeps : goal.returns-in_default-narrow-clause-keeps
returns-in_default-narrow-clause-keeps c =
    let t = c.args.t.now in
    let parts = c.args.parts.now in
    let texts = c.args.texts.now in
    let i = c.parts.index in
    let part = c.in-Some-Some.part.now in
    let text = c.in-Some-Some.text.now in
    let part_is = slice_get_read parts (length parts) i part refl (ltb-true i (length parts) (sym c.in-Some-Some.ensures.lookup.0)) c.in-Some-Some.ensures.lookup.1 in
    let text_is = slice_get_read texts (length texts) i text refl (ltb-true i (length texts) (sym c.in-Some-Some.ensures'.lookup.0)) c.in-Some-Some.ensures'.lookup.1 in
    stay_nowhere t c.args.lengths.now c.args.goal.now.at c.args.goal.now.context parts texts c.args.region.items c.parts.left.items i part text part_is text_is
    (subst (λ (o : Option (Vec Cell Global)). KeepsPart t c.parts.left.items c.args.lengths.now c.args.goal.now.at c.args.goal.now.context part text.now (option_map (λ v. v.items) o))
    c.in_default-narrow.is c.in_ok-narrow.ensures.keeps) c.parts.invariant.stay

pub parts-preserved : goal.parts-preserved
parts-preserved c =
    let t = c.args.t.now in
    let parts = c.args.parts.now in
    let texts = c.args.texts.now in
    let i = c.parts.index in
    let part = c.in-Some-Some.part.now in
    let text = c.in-Some-Some.text.now in
    let part_is = slice_get_read parts (length parts) i part refl (ltb-true i (length parts) (sym c.in-Some-Some.ensures.lookup.0)) c.in-Some-Some.ensures.lookup.1 in
    let text_is = slice_get_read texts (length texts) i text refl (ltb-true i (length texts) (sym c.in-Some-Some.ensures'.lookup.0)) c.in-Some-Some.ensures'.lookup.1 in
    let long = subst (λ (o : Option (Vec Cell Global)). IsAsLong (length c.parts.left.items) (option_map (λ v. v.items) o)) c.in-Some.is c.in_ok-narrow.ensures.long in record {
      stay = stay_narrow t c.args.lengths.now c.args.goal.now.at c.args.goal.now.context parts texts c.args.region.items c.parts.left.items c.in-Some.cells.items i part text part_is text_is
          (subst (λ (o : Option (Vec Cell Global)). KeepsPart t c.parts.left.items c.args.lengths.now c.args.goal.now.at c.args.goal.now.context part text.now (option_map (λ v. v.items) o))
          c.in-Some.is c.in_ok-narrow.ensures.keeps) c.parts.invariant.stay;
      long = long ∙ c.parts.invariant.long;
    }
