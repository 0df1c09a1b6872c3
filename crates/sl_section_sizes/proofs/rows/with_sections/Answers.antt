use Rattle.std.specs.declared.alloc.Global.{Global}
use Rattle.std.proofs.Common.{◌≡◌, ◌<◌, ◌++◌, ◌∷◌, [], ℕ, List, Option, Vec, length, get_or, map, take, ap, ◌∙◌, sym, arith}
use Rattle.std.specs.List.{zip}
use Rattle.std.proofs.lemmas.List.{length-map, map_push}
use Rattle.sl_section_all.specs.FlatSections.{Flat}
use Rattle.sl_section_all.specs.Views.{flat_of, flats_of}
use Rattle.sl_base_graphs.proofs.Seen.{read_or}
use Rattle.sl_spec_rules.proofs.Seen.{below_map, seen_map}
use Rattle.sl_section_sizes.specs.Ordering.{with_section}
use Rattle.sl_section_sizes.specs.Rows.{lists_meant, tables_meant}
use Rattle.sl_section_sizes.specs.Constructors.{Constructor}
use Rattle.sl_section_sizes.specs.ConstructorViews.{constructor_of, constructors_of}
use Rattle.sl_spec.specs.Tables.{Ctor}
use Rattle.sl_spec_tables.proofs.RowLemmas.{zip_all, zip_more}
use Rattle.sl_section_sizes.proofs.rows.with_sections.Goals as goal

abbrev made : Ctor × Flat → Constructor
made r = with_section r.0 r.1

abbrev meant : Ctor → List (Option ℕ)
meant c = tables_meant c.operands

abbrev items : Vec (Option ℕ) Global → List (Option ℕ)
items v = v.items

pub with_section-requires : goal.with_section-requires
with_section-requires c =
    let ctors = c.args.ctors.now in
    let lists = c.args.operands.now in
    let i = c.ctors.index in
    let ctor = c.index-ctors-index.result in
    let v = c.index-operands-index.result in
    let below : i < length ctors = omega (arith, c.ctors-test.true, c.min-index-end.ensures) in
    let counted : length lists ≡ length ctors = sym (length-map lists items) ∙ ap (λ (l : List (List (Option ℕ))). length l) c.requires ∙ length-map ctors meant in
    let at : v.items ≡ get_or (lists_meant lists) i v.items = seen_map items lists i v (omega (arith, counted)) c.index-operands-index.is in
    c.as_slice-tables.ensures.value ∙ at ∙ ap (λ (l : List (List (Option ℕ))). get_or l i v.items) c.requires ∙ read_or meant ctors i ctor v.items below c.index-ctors-index.is

pub ctors-preserved : goal.ctors-preserved
ctors-preserved c =
    let ctors = c.args.ctors.now in
    let ss = c.args.sections.now in
    let i = c.ctors.index in
    let ctor = c.index-ctors-index.result in
    let s = c.index-sections-index.result in
    let below : i < length ctors = omega (arith, c.ctors-test.true, c.min-index-end.ensures) in
    let inside : i < length ss = omega (arith, c.ctors-test.true, c.min-index-end.ensures) in
    let one : constructor_of c.with_section.result ≡ made (ctor, flat_of s) = c.with_section.ensures in
    let so_far : List (Ctor × Flat) = zip (take i ctors) (take i (flats_of ss)) in
    ap constructors_of c.in_ok-push.ensures.items
    ∙ map_push constructor_of c.ctors.all.items c.with_section.result
    ∙ (λ j. c.ctors.invariant j ++ one j ∷ [])
    ∙ sym (map_push made so_far (ctor, flat_of s))
    ∙ ap (map made) (sym (zip_more ctors (flats_of ss) i ctor (flat_of s) below (below_map flat_of ss i inside) c.index-ctors-index.is (seen_map flat_of ss i s inside c.index-sections-index.is)))

pub returns : goal.returns
returns c =
    let ctors = c.args.ctors.now in
    let ss = c.args.sections.now in
    let m = c.min-index-end.ensures in
    let t = c.ctors-test.false in
    c.ctors.invariant ∙ ap (map made) (zip_all ctors (flats_of ss) c.ctors.index (omega (arith, length-map ss flat_of)))
