-- Where rules 38 and 39 hold, no constructor weighs too much.
use Rattle.std.proofs.Common.{◌≡◌, ℕ, ◌<◌, Bool, true, false, cond, nat_lt, List, [], ◌∷◌, Option, Some, None, length, get_or, map, min, refl, ap, ◌∙◌, arith}
use Rattle.std.specs.List.{position_or_len, zip}
use Rattle.std.specs.Prelude.{option_map, position, slice_get}
use Rattle.std.proofs.lemmas.Bool.Decides.{nat_tests}
use Rattle.std.proofs.lemmas.Option.{slice_get-get_or}
use Rattle.std.proofs.lemmas.Slice.Zip.{length-zip}
use Rattle.sl_ast.specs.Trees.{Constructor}
use Rattle.sl_ast.specs.Unfolding.{Placed}
use Rattle.sl_section_exports.specs.Exports.{heavy_place, section_fault, unexported_place}
use Rattle.sl_section_exports.specs.Views.{sections_of, steps_in}
use Rattle.sl_section_all.specs.FlatSections.{Flat, flat_sections, sections_by, sections_fault, up_to}
use Rattle.sl_section_all.specs.Scopes.{Scopes}
use Rattle.sl_section_all.specs.Views.{flats_of}
use Rattle.sl_section_flat.specs.Sections.{Step}
use Rattle.sl_section_flat.specs.declared.section.Section.{Section}
use Rattle.sl_spec.specs.Tables.{Ctor}
use Rattle.sl_spec.specs.declared.tables.Tables.{Tables}
use Rattle.sl_spec_tables.specs.Rows.{Row, rows, groups}
use Rattle.sl_spec_tables.specs.TableRules.{fault_or}
use Rattle.sl_spec_tables.specs.declared.faults.LateFault.{LateFault}
use Rattle.sl_spec_tables.specs.declared.faults.Place.{Place}
use Rattle.sl_section_weights.specs.Weights.{first_heavy, is_heavy}

nowhere : (rule : ℕ) (place : Option Place) (other : Option LateFault) → fault_or rule place other ≡ None → (place ≡ None) × (other ≡ None)
nowhere rule (Some p) other h = absurd (let e : ⊥ = cc in e)
nowhere rule None other h = (refl, h)

placed_there : (c : Ctor) (o : Option Ctor) (P : Type 0) → o ≡ Some c → option_map (λ (x : Ctor). Place.Item x.item) o ≡ None → P
placed_there c None P is none = absurd (let e : ⊥ = cc in e)
placed_there c (Some d) P is none = absurd (let e : ⊥ = cc in e)

-- the index of a member that passes is below the length
within_by : (n m i : ℕ) (b : Bool) → nat_lt n m ≡ b → cond b (Some n) None ≡ Some i → i < m
within_by n m i true e is = let same : n ≡ i = cc in grind (arith, nat_tests)
within_by n m i false e is = absurd (let h : ⊥ = cc in h)

within : {A : Type 0} (test : A → Bool) (xs : List A) (i : ℕ) → position test xs ≡ Some i → i < length xs
within test xs i is = within_by (position_or_len test xs) (length xs) i (nat_lt (position_or_len test xs) (length xs)) refl is

no_ctor : Ctor
no_ctor = record { table = 0; item = 0; operands = [] }

not_heavy : (t : Tables) (test : Row → Bool) (cs : List (Placed Constructor)) (o : Option ℕ) → position test (rows t cs) ≡ o → heavy_place t o ≡ None → o ≡ None
not_heavy t test cs None is none = refl
not_heavy t test cs (Some i) is none =
    let long = within test (rows t cs) i is in
    let here : i < length t.constructors = omega (arith, long, length-zip t.constructors cs) in
    placed_there (get_or t.constructors i no_ctor) (slice_get t.constructors i) (Some i ≡ None) (slice_get-get_or t.constructors i no_ctor here) none

-- no constructor weighs too much
pub none_heavy : (t : Tables) (s : Scopes) (cs : List (Placed Constructor)) → sections_fault t s cs ≡ None → first_heavy t s.macros cs ≡ None
unfolding first_heavy sections_fault
none_heavy t s cs none =
    let heavy = first_heavy t s.macros cs in
    let ss = map (λ (f : Flat). f.steps) (sections_by t s.macros cs (up_to heavy s.reaches)) in
    let rest = (nowhere 38 (unexported_place t cs ss) _ none).1 in
    not_heavy t (is_heavy s.macros (groups (length t.tables) (rows t cs))) cs heavy refl (nowhere 38 (heavy_place t heavy) _ rest).0

-- the sections that were made flat are all
pub all_flat : (t : Tables) (s : Scopes) (cs : List (Placed Constructor)) (heavy : Option ℕ) → heavy ≡ first_heavy t s.macros cs → sections_fault t s cs ≡ None
    → sections_by t s.macros cs (up_to heavy s.reaches) ≡ flat_sections t s cs
unfolding flat_sections
all_flat t s cs heavy is none =
    ap (λ (o : Option ℕ). sections_by t s.macros cs (up_to o s.reaches)) (is ∙ none_heavy t s cs none)

-- the statements of sections
steps_are : (ss : List Section) → sections_of ss ≡ map (λ (f : Flat). f.steps) (flats_of ss)
steps_are [] = refl
steps_are (s ∷ ss) = ap (λ (l : List (List Step)). steps_in s ∷ l) (steps_are ss)

-- the verdict over the sections that were made flat
pub fault_is : (t : Tables) (s : Scopes) (cs : List (Placed Constructor)) (heavy : Option ℕ) (ss : List Section) → heavy ≡ first_heavy t s.macros cs
    → flats_of ss ≡ sections_by t s.macros cs (up_to heavy s.reaches) → section_fault t cs (sections_of ss) heavy ≡ sections_fault t s cs
unfolding sections_fault
fault_is t s cs heavy ss is flat =
    ap (λ (l : List (List Step)). section_fault t cs l heavy) (steps_are ss)
    ∙ ap (λ (fs : List Flat). section_fault t cs (map (λ (f : Flat). f.steps) fs) heavy) flat
    ∙ ap (λ (o : Option ℕ). section_fault t cs (map (λ (f : Flat). f.steps) (sections_by t s.macros cs (up_to o s.reaches))) o) is
