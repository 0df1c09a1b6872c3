use Rattle.std.proofs.Common.{◌<◌, [], length, sym, ap, subst, ◌∙◌, arith, get_or}
use Rattle.std.specs.String.{string_bytes}
use Rattle.std.proofs.lemmas.List.{get_or-map, length-map}
use Rattle.sl_preproc.specs.Expanded.{seen}
use Rattle.sl_preproc.specs.Works.{names_of}
use Rattle.sl_preproc.specs.declared.places.Place.{Place}
use Rattle.sl_tool_stages.proofs.PlaceLemmas.{file_among, place_is}
use Rattle.sl_tool_stages.proofs.source.Source.place.Goals as goal

pub index-requires : goal.index-requires
index-requires c =
    let s = c.args.self.now in
    let names = s.expanded.files.items in
    let known = subst (λ (p : Place). p.file < length (names_of names)) (sym c.place_of-place.ensures) (file_among (seen s.expanded) c.args.byte s.sound) in
    omega (arith, known, length-map names string_bytes)

pub returns : goal.returns
returns c =
    let s = c.args.self.now in
    let names = s.expanded.files.items in
    let place = c.place_of-place.result in
    let known = subst (λ (p : Place). p.file < length (names_of names)) (sym c.place_of-place.ensures) (file_among (seen s.expanded) c.args.byte s.sound) in
    place_is _ _ _
    (c.in_ok-file.ensures ∙ c.as_str-name.ensures.value ∙ ap string_bytes c.index.ensures
    ∙ sym (get_or-map string_bytes names place.file c.index.result.now [] (omega (arith, known, length-map names string_bytes)))
    ∙ ap (λ (p : Place). get_or (names_of names) p.file []) c.place_of-place.ensures)
    (c.from-line.ensures ∙ ap (λ (p : Place). p.line) c.place_of-place.ensures)
