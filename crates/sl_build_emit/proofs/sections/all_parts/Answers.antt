use Rattle.std.proofs.Common.{rules, ◌≡◌, ◌++◌, ◌+◌, ◌∷◌, ℕ, List, length, drop, sym, ap, ◌∙◌, arith}
use Rattle.std.proofs.lemmas.Grind.{common_steps}
use Rattle.sl_build_emit.specs.Views.{frame_of, jumps_to, lists_of, place_by, scan, setting_of}
use Rattle.sl_build_emit.proofs.SectionLemmas.{one_more}
use Rattle.sl_section_flat.specs.Sections.{Label}
use Rattle.sl_build_template.specs.Pieces.{Part}
use Rattle.sl_build_template.specs.Placed.{part_code, parts_code}
use Rattle.sl_build_template.specs.Views.{part_of, parts_of}
use Rattle.sl_build_emit.proofs.sections.all_parts.Goals as goal

pub parts-preserved : goal.parts-preserved
parts-preserved c =
    let site = c.args.site.now in
    let g = setting_of site in
    let f = frame_of site in
    let lists = lists_of c.args.lists.now in
    let all = c.args.parts.now in
    let label_place : Label → ℕ = λ x. scan (parts_of all) c.args.lengths.now x 0 in
    let i = c.parts.index in
    let a = part_of c.index-parts-index-in-parts.result in
    let rest = parts_of (drop (i + 1) all) in
    let place = c.in_ok-place.place in
    let old = c.parts.out in
    let new = c.part.new.out in
    let there : place ≡ place_by label_place (jumps_to a.tail) = first_of (grind (arith, common_steps), search rules) in
    let put : new ≡ old ++ part_code site.top g f (λ l. place) lists (length old) a = first_of (grind (arith, common_steps), search rules) in
    let left : parts_of (drop i all) ≡ a ∷ rest = first_of (grind (arith, common_steps), search rules) in
    one_more site.top g f lists label_place place a rest old new there put
    ∙ ap (λ (xs : List Part). old ++ parts_code site.top g f lists label_place (length old) xs) (sym left)
    ∙ c.parts.invariant
