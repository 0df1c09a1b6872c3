use Rattle.std.proofs.Common.{◌≡◌, List, map, ap, subst, ◌∙◌}
use Rattle.sl_ast.specs.Unfolding.{unfolded}
use Rattle.sl_ast.specs.Views.{item_of, items_of}
use Rattle.sl_ast.specs.declared.items.Item.{Item}
use Rattle.sl_build.specs.Stands.{StandsFor}
use Rattle.sl_section_all.specs.FlatSections.{flat_sections}
use Rattle.sl_section_all.specs.Scopes.{scopes_of}
use Rattle.sl_section_all.specs.Views.{scopes_view}
use Rattle.sl_meaning_instruction.specs.Instructions.{Specification}
use Rattle.sl_section_sizes.specs.Sizings.{lists_of}
use Rattle.sl_spec.specs.Unfolded.{all_placed}
use Rattle.sl_spec.specs.ConstructorItems.{constructors_in}
use Rattle.sl_build.proofs.sections.Sections.new.Goals as goal

pub sections_of-requires : goal.sections_of-requires
sections_of-requires c = c.in_ok-text.ensures.numbered

pub returns : goal.returns
returns c =
    let bound = c.args.bound.now in
    let text = c.in_ok-text.text in
    let cs : all_placed text.constructors.items ≡ constructors_in (unfolded (items_of bound.spec)) =
    c.in_ok-text.ensures.constructors ∙ ap (λ (is : List Item). constructors_in (unfolded (map item_of is))) c.as_slice.ensures.value in
    let sc : scopes_view text.scopes ≡ scopes_of (items_of bound.spec) = c.in_ok-text.ensures.scopes ∙ ap (λ (is : List Item). scopes_of (map item_of is)) c.as_slice.ensures.value in
    let sz = c.as_slice-2.ensures.value in
    subst (λ (s : Specification). StandsFor c.in_ok-sections.sections s) (λ i. record {
      tables = bound.tables;
      constructors = cs i;
      sections = flat_sections bound.tables (sc i) (cs i);
      sizes = lists_of (sz i);
    }) c.in_ok-sections.ensures
