-- The operations of the instructions of an accepted text are faithful to them.
use Rattle.std.proofs.Common.{◌≡◌, ℕ, false, List, map, slice_get, Some, Ok, ap, ◌∙◌, arith}
use Rattle.sl_ast.specs.Trees.{Item}
use Rattle.sl_bind.proofs.BoundLemmas.{tables_listed}
use Rattle.sl_bind.specs.Binding.{constructors_of}
use Rattle.sl_bind.specs.Sections.{AreParts}
use Rattle.sl_bind.specs.Verdict.{taken}
use Rattle.sl_faithful_sections.proofs.FlatLemmas.{flats_are_named}
use Rattle.sl_faithful_sections.specs.NameLaws.{IsNamed}
use Rattle.sl_faithful_places.proofs.CountLemmas.{taken_are_few}
use Rattle.sl_faithful_places.proofs.PlaceLemmas.{taken_are_defined}
use Rattle.sl_faithful_places.proofs.SpaceLemmas.{taken_have_spaces}
use Rattle.sl_faithful_sections.proofs.BoundLemmas.{builds_are_once, constants_are_bare, exports_are_places}
use Rattle.sl_faithful_sections.proofs.BoundLemmas.{tables_export_alike}
use Rattle.sl_faithful_accepted.proofs.Choices.{choices_are_own}
use Rattle.sl_faithful_accepted.proofs.Flats.{ctor_of, flats_long, of_map, unzipped, variables_few}
use Rattle.sl_faithful_accepted.proofs.HaveLemmas as have
use Rattle.sl_faithful_accepted.proofs.Parts.{bound_are_parts, bound_keep_limits}
use Rattle.sl_faithful_accepted.proofs.Uses.{bound_keep_uses, rules_hold}
use Rattle.sl_faithful_accepted.specs.Laws.{ArePlaced, BoundAreTranslated, BoundHaveTranslations, IsShort, flats_of}
use Rattle.sl_faithful_code.specs.Nodes.{top_of}
use Rattle.sl_decode_meaning.specs.TreeCounts.{count}
use Rattle.sl_faithful_lists.proofs.Instructions.{translations_are_faithful}
use Rattle.sl_faithful_lists.specs.Laws.{AllSectionsName}
use Rattle.sl_faithful_keeping.specs.Keeping.{first_export}
use Rattle.sl_section_all.specs.FlatSections.{Flat}
use Rattle.sl_section_all.specs.Scopes.{scopes_of}
use Rattle.sl_faithful_accepted.proofs.TakenLemmas.{taken_are_read}
use Rattle.sl_faithful_accepted.proofs.TreeLemmas.{decodes_are_given}
use Rattle.sl_meaning_instruction.specs.Instructions.{Specification, is_unimpl_by, setting_of, specification_of}
use Rattle.sl_meaning_sections.specs.References.{Setting}
use Rattle.sl_faithful_sections.specs.SoundLaws.{IsKnown, IsStated, uses_in}
use Rattle.sl_spec.specs.Tables.{Ctor}
use Rattle.sl_spec.specs.declared.tables.Tables.{Tables}
use Rattle.sl_spec_tables.specs.Rows as all
use Rattle.sl_faithful_accepted.proofs.Translated.{decodes_are_translated, is_setting}
use Rattle.sl_faithful_accepted.specs.TextLaws.{SpacesFit}
use Rattle.sl_faithful_instructions.specs.Sound.{Uses, kinds_of}
use Rattle.sl_faithful_limits.specs.TreeLaws.{KeepLimits}
use Rattle.sl_faithful_sections.proofs.Whole.{fit_the_whole}
use Rattle.sl_faithful_sections.specs.SizeLaws.{FitTheWhole}
use Rattle.sl_word.specs.declared.word.Size.{Size}

-- what is exported by name can be handed on
exports_placed : (items : List Item) (t : Tables) → taken items ≡ Ok t
    → ArePlaced t (constructors_of items) (flats_of items t)
exports_placed items t is k r what there first =
    let row = unzipped (all.rows t (constructors_of items)) (map (λ (f : Flat). f.steps) (flats_of items t)) k r
    there in
    let f = of_map (λ (f : Flat). f.steps) (flats_of items t) k r.1 row.1 in
    exports_are_places items t k f.0 what is f.1 (ap first_export f.2 ∙ first)

module _ (items : List Item) (t : Tables) (sizes : List (List Size)) (short : IsShort items)
    (parts : AreParts items t sizes) (address after : ℕ) where
  abbrev s : Specification
  s = specification_of items t sizes

  abbrev g : Setting
  g = setting_of t address after

  -- the spaces are those of a machine
  spaces_fit : SpacesFit t
  spaces_fit =
      let default = taken_have_spaces items t parts.stands in
      let few = taken_are_few items t parts.stands in
      record {
        some = omega (arith, default.within);
        few = omega (arith, few.0, short);
        narrow = λ i space is. ((taken_are_defined items t parts.stands).spaces i space is).1;
      }

  -- the names and size variables of each section
  named : (u : Uses) (number : ℕ) (c : Ctor) (f : Flat) → slice_get t.constructors number ≡ Some c
      → slice_get s.sections number ≡ Some f → IsNamed t u g c f
  named u number c f there is =
      flats_are_named t (scopes_of items) (constructors_of items) u address after number c f
      (taken_are_defined items t parts.stands) there is

  -- whatever is known of tables, each section names what there is
  sections_name : Uses → AllSectionsName s g
  sections_name u number f is =
      let c = ctor_of t (scopes_of items) (constructors_of items) number f is in
      (kinds_of t u c.0, (named u number c.0 f c.1 is).names)

  module _ (whole : FitTheWhole t s.sections sizes) (limits : KeepLimits t s.constructors (scopes_of items).macros)
    where
      abbrev u : Uses
      u = uses_in s whole.last

      stated : (number : ℕ) (c : Ctor) (f : Flat) → slice_get t.constructors number ≡ Some c
          → slice_get s.sections number ≡ Some f
          → is_unimpl_by (slice_get s.constructors number) ≡ false → IsStated s g whole.last c f
      stated number c f there is implemented =
          let names = named u number c f there is in
          let rules = rules_hold t (scopes_of items) (constructors_of items) parts.kept.holds in
          record {
            few = variables_few t (scopes_of items) (constructors_of items) limits number c f there is;
            below = names.below;
            once = builds_are_once items t number f parts.stands is;
            names = names.names;
            bare = constants_are_bare items t number f parts.stands is;
            exports = λ size sized. tables_export_alike items t sizes number c f size parts.stands rules.0 whole there
                is implemented sized;
          }

      -- what is known of the text
      known : IsKnown s g
      known =
          let listed = tables_listed items t parts.stands in
          let few = taken_are_few items t parts.stands in
          record {
            machine = (is_setting t address after spaces_fit).machine;
            userops = omega (arith, few.1, short);
            texts = omega (arith, listed.counted);
            flats = flats_long items t listed.counted;
            whole = whole;
            keep = bound_keep_uses items t sizes parts whole
                (λ number c f there is. (named u number c f there is).below) (exports_placed items t parts.stands);
            stated = stated;
          }

pub bound_are_translated : BoundAreTranslated
bound_are_translated items t sizes choose bytes address context d ops short binds is_choice decodes implemented same =
    let parts = bound_are_parts items t sizes binds in
    let limits = bound_keep_limits items t sizes binds in
    let whole = fit_the_whole t (constructors_of items) (flats_of items t) sizes (tables_listed items t parts.stands)
    parts.kept.sized in
    let known = known items t sizes short parts address d.after whole limits in
    let u = uses_in (specification_of items t sizes) known.whole.last in
    let translation = decodes_are_translated items t sizes choose bytes address context d ops
    (choices_are_own t (constructors_of items) choose is_choice) decodes
    (record {
      spaces = spaces_fit items t sizes short parts address d.after;
      known = known;
      limits = limits;
      gives = decodes_are_given (specification_of items t sizes) u choose bytes address context d
          (taken_are_defined items t parts.stands) (taken_are_read items t parts.stands) decodes;
      implemented = implemented;
    }) same in
    translations_are_faithful (specification_of items t sizes) bytes address (top_of (count d.tree)) d ops
    (sections_name items t sizes short parts address d.after u) implemented translation same

pub bound_have_translations : BoundHaveTranslations
bound_have_translations = have.bound_have_translations bound_are_translated
