-- The flat section of a constructor is that of its section as it is written.
use Rattle.std.proofs.Common.{◌≡◌, ℕ, zero, suc, List, [], ◌∷◌, Some, length, map, refl, sym, subst}
use Rattle.std.specs.Prelude.{slice_get}
use Rattle.std.specs.List.{zip}
use Rattle.std.proofs.lemmas.List.{length-map}
use Rattle.sl_ast.specs.Trees.{Constructor, Section, statements, unimplemented}
use Rattle.sl_ast.specs.Unfolding.{Placed}
use Rattle.sl_faithful_sections.specs.NameLaws.{FlatsAreNamed, IsNamed}
use Rattle.sl_faithful_sections.proofs.NameLemmas.{sections_name, sections_number}
use Rattle.sl_faithful_places.specs.Defined.{AreDefined}
use Rattle.sl_faithful_keeping.specs.Names.{IsNamedSo, StepsName}
use Rattle.sl_section_all.specs.FlatSections.{Flat, flat_section, flat_sections, row_section}
use Rattle.sl_section_all.specs.Scopes.{Scopes}
use Rattle.sl_meaning_instruction.specs.Instructions.{setting_of}
use Rattle.sl_section_resolve.specs.Macros.{Body}
use Rattle.sl_section_terms.specs.declared.reach.Reach.{Reach}
use Rattle.sl_spec.specs.Tables.{Ctor, Space}
use Rattle.sl_spec.specs.declared.tables.Tables.{Tables}
use Rattle.sl_faithful_instructions.specs.Sound.{Uses, kinds_of}

-- How the constructor of this number is written, and what is defined before it, by which this is
-- its flat section.
pub record IsFlatOf (t : Tables) (macros : List Body) (ps : List (Placed Constructor)) (reaches : List Reach) (k : ℕ) (c : Ctor) (f : Flat) : Type 0 where
  pub written : Placed Constructor
  pub there : slice_get ps k ≡ Some written
  pub reach : Reach
  pub before : slice_get reaches k ≡ Some reach
  pub is : flat_section t macros reach c.operands written.1.section ≡ f

module _ (t : Tables) (macros : List Body) where
  row_at : (cs : List Ctor) (ps : List (Placed Constructor)) (reaches : List Reach) (k : ℕ) (c : Ctor) (f : Flat) → slice_get cs k ≡ Some c
      → slice_get (map (row_section t macros) (zip (zip cs ps) reaches)) k ≡ Some f → IsFlatOf t macros ps reaches k c f
  row_at [] ps reaches k c f at is = absurd (let no : ⊥ = cc in no)
  row_at (d ∷ cs) [] reaches k c f at is = absurd (let no : ⊥ = cc in no)
  row_at (d ∷ cs) (p ∷ ps) [] k c f at is = absurd (let no : ⊥ = cc in no)
  row_at (d ∷ cs) (p ∷ ps) (r ∷ reaches) zero c f at is =
      let same : d ≡ c = cc in
      let flat : flat_section t macros r d.operands p.1.section ≡ f = cc in
      record {
        written = p;
        there = refl;
        reach = r;
        before = refl;
        is = subst (λ (e : Ctor). flat_section t macros r e.operands p.1.section ≡ f) same flat;
      }
  row_at (d ∷ cs) (p ∷ ps) (r ∷ reaches) (suc k) c f at is =
      let rest = row_at cs ps reaches k c f at is in
      record { written = rest.written; there = rest.there; reach = rest.reach; before = rest.before; is = rest.is }

pub flat_at : (t : Tables) (s : Scopes) (ps : List (Placed Constructor)) (k : ℕ) (c : Ctor) (f : Flat) → slice_get t.constructors k ≡ Some c
    → slice_get (flat_sections t s ps) k ≡ Some f → IsFlatOf t s.macros ps s.reaches k c f
unfolding flat_sections
flat_at t s ps k c f at is = row_at t s.macros t.constructors ps s.reaches k c f at is

module _ (t : Tables) (u : Uses) (address after : ℕ) (defined : AreDefined t) where
  -- the machine has the spaces of the text
  spaces_are : length t.spaces ≡ length (setting_of t address after).sizes
  unfolding setting_of
  spaces_are = sym (length-map t.spaces (λ (x : Space). x.size))

  written_named : (macros : List Body) (reach : Reach) (c : Ctor) (section : Section) → IsNamed t u (setting_of t address after) c (flat_section t macros reach c.operands section)
  written_named macros reach c (statements body) = record {
    below = sections_number t macros reach c.operands body;
    names = subst (λ n. StepsName (IsNamedSo (setting_of t address after) (kinds_of t u c)) n (length t.userops) (flat_section t macros reach c.operands (statements body)).steps)
        spaces_are (sections_name t u address after macros reach c body defined);
  }
  written_named macros reach c unimplemented = record { below = tt; names = tt }

pub flats_are_named : FlatsAreNamed
flats_are_named t s constructors u address after number c f defined at is =
    let flat = flat_at t s constructors number c f at is in
    subst (IsNamed t u (setting_of t address after) c) flat.is (written_named t u address after defined s.macros flat.reach c flat.written.1.section)
