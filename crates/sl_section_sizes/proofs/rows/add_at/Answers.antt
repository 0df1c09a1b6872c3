use Rattle.std.proofs.Common.{◌<◌, ◌++◌, length, option_map, option_to_list, ap, sym, ◌∙◌, append-nil, refl, arith}
use Rattle.std.proofs.lemmas.List.{length-map, map_push}
use Rattle.std.proofs.lemmas.Option.{slice_get-map, slice_get_past, slice_get_read}
use Rattle.sl_section_sizes.specs.ConstructorViews.{constructor_of, constructors_of}
use Rattle.sl_section_sizes.proofs.rows.add_at.Goals as goal

pub returns-then-number-all : goal.returns-then-number-all
returns-then-number-all c =
    let cs = constructors_of c.args.ordered.now.items in
    let all = c.args.all.now in
    sym (append-nil cs) ∙ ap (λ o. cs ++ option_to_list o) (sym (slice_get_past (constructors_of all) c.args.number (omega (arith, length-map all constructor_of, c.if-number-all.true))))

pub returns : goal.returns
returns c =
    let cs = c.args.ordered.now.items in
    let all = c.args.all.now in
    let n = c.args.number in
    let x = c.index-all-number.result in
    let below : n < length all = omega (arith, c.if-number-all.false) in
    let at = slice_get-map constructor_of all n ∙ ap (option_map constructor_of) (slice_get_read all (length all) n x refl below c.index-all-number.is) in
    ap constructors_of c.in_ok-push.ensures.items ∙ map_push constructor_of cs x ∙ ap (λ o. constructors_of cs ++ option_to_list o) (sym at)
