use Rattle.std.proofs.Common.{◌≡◌, List, map, refl, sym, subst, ap, ◌∙◌}
use Rattle.std.specs.Prelude.{slice_get}
use Rattle.sl_build.proofs.StandLemmas.{all_flat}
use Rattle.sl_build.proofs.TemplateLemmas.{templates_there}
use Rattle.sl_build.specs.Views.{templates_of}
use Rattle.sl_section_all.specs.FlatSections.{sections_by}
use Rattle.sl_section_all.specs.Views.{scopes_view}
use Rattle.sl_meaning_instruction.specs.Instructions.{is_unimpl}
use Rattle.sl_meaning_instruction.specs.Operands.{given_by}
use Rattle.sl_section_terms.specs.declared.reach.Reach.{Reach}
use Rattle.sl_section_sizes.specs.Sizings.{lists_of}
use Rattle.sl_spec.specs.Numbers.{AreNumbered}
use Rattle.sl_spec.specs.Unfolded.{all_placed}
use Rattle.sl_spec.specs.declared.unfolded.Unfolded.{Unfolded}
use Rattle.sl_build.proofs.sections.sections_of.Goals as goal

pub all_slots-requires : goal.all_slots-requires
all_slots-requires c = subst (λ (us : List Unfolded). AreNumbered us) (sym c.as_slice-constructors.ensures.value) c.requires

pub returns : goal.returns
returns c =
    let t = c.args.t.now in
    let text = c.args.text.now in
    let s = scopes_view text.scopes in
    let us = c.as_slice-constructors.result.now in
    let same : us ≡ text.constructors.items = c.as_slice-constructors.ensures.value in record {
      tables = refl;
      sections = c.in_ok-sections.ensures ∙ ap (λ (rs : List Reach). sections_by t s.macros (all_placed us) rs) c.as_slice-reaches.ensures.value
          ∙ ap (λ (xs : List Unfolded). sections_by t s.macros (all_placed xs) s.reaches) same ∙ all_flat t s (all_placed text.constructors.items);
      sizes = refl;
      gives = λ bytes n lengths. c.in_ok-slots.ensures bytes n lengths
          ∙ ap (λ (xs : List Unfolded). given_by t bytes n (slice_get t.constructors n.ctor) (slice_get (all_placed xs) n.ctor) lengths) same;
      marks = c.in_ok-marks.ensures ∙ ap (λ (xs : List Unfolded). map (λ u. is_unimpl u.1.section) (all_placed xs)) same;
      spaces = c.in_ok-spaces.ensures;
      default = c.in_ok-default.ensures;
      templates = templates_there c.in_ok-default.default.0 (lists_of c.args.sizes.now) (templates_of c.in_ok-templates.templates.items) c.as_slice.result.now c.in_ok-spaces.spaces.items
          c.as_slice-2.result.now c.in_ok-sections.sections.items c.as_slice.ensures.value c.as_slice-2.ensures.value c.in_ok-templates.ensures;
    }
