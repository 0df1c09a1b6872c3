use Rattle.std.proofs.Common.{◌≡◌, ℕ, List, length, sym, subst, ap, ◌∙◌}
use Rattle.std.proofs.lemmas.List.{length-map}
use Rattle.sl_section_equations.specs.Known.{exports_of}
use Rattle.sl_section_sizes.specs.Ordering.{address_of, in_order, in_text_order, numbers}
use Rattle.sl_section_sizes.specs.SectionSizes.{numbers_by, shaped, unknown}
use Rattle.sl_section_sizes.specs.Telling.{Tells}
use Rattle.sl_section_sizes.proofs.ToldLemmas.{told_error}
use Rattle.sl_section_sizes.specs.Constructors.{Constructor}
use Rattle.sl_section_sizes.specs.ConstructorViews.{constructor_of, constructors_of}
use Rattle.sl_section_sizes.specs.Sizings.{AreSized, IsError, lists_of}
use Rattle.sl_section_sizes.proofs.sizes.sizes_by.Goals as goal

pub returns-in-Ok-clause-sizes : goal.returns-in-Ok-clause-sizes
returns-in-Ok-clause-sizes c =
    let t = c.args.t.now in
    let cs = constructors_of c.args.all.now in
    let tables = c.args.tables.now in
    let found = lists_of c.in-Ok.found.sections.items in
    let exports = exports_of c.in-Ok.found.exports.items in
    let count : length c.args.all.now ≡ length cs = sym (length-map c.args.all.now constructor_of) in
    let are : c.in_ok-numbers.numbers.items ≡ numbers_by t cs tables = c.in_ok-numbers.ensures ∙ ap (λ (n : ℕ). numbers t n tables) count in
    let ordered : constructors_of c.as_slice-2.result.now ≡ shaped t cs tables =
    ap constructors_of c.as_slice-2.ensures.value ∙ c.in_ok-ordered.ensures ∙ ap (in_order cs) (c.as_slice.ensures.value ∙ are) in
    let ns : c.as_slice-in-Ok.result.now ≡ numbers_by t cs tables = c.as_slice-in-Ok.ensures.value ∙ are in
    record {
      tables = tables;
      is_order = c.requires;
      found = found;
      exports = exports;
      are_sized = subst (λ (l : List Constructor). AreSized (address_of t) (unknown t) l found exports) ordered c.in-Ok.ensures.sizes;
      in_text = c.in_ok-all-in-Ok.ensures ∙ (λ i. in_text_order (count i) found (ns i));
    }

pub returns-clause-fault : goal.returns-clause-fault
returns-clause-fault c =
    let t = c.args.t.now in
    let cs = constructors_of c.args.all.now in
    let tables = c.args.tables.now in
    let e = c.in-Err.error in
    let count : length c.args.all.now ≡ length cs = sym (length-map c.args.all.now constructor_of) in
    let are : c.in_ok-numbers.numbers.items ≡ numbers_by t cs tables = c.in_ok-numbers.ensures ∙ ap (λ (n : ℕ). numbers t n tables) count in
    let ordered : constructors_of c.as_slice-2.result.now ≡ shaped t cs tables =
    ap constructors_of c.as_slice-2.ensures.value ∙ c.in_ok-ordered.ensures ∙ ap (in_order cs) (c.as_slice.ensures.value ∙ are) in
    let ns : c.as_slice-in-Err.result.now ≡ numbers_by t cs tables = c.as_slice-in-Err.ensures.value ∙ are in
    told_error t cs tables c.requires e c.told.result
    (subst (λ (l : List Constructor). IsError (address_of t) (unknown t) l e) ordered c.in-Err.ensures.error)
    (subst (λ (l : List ℕ). Tells t l e c.told.result) ns c.told.ensures)
