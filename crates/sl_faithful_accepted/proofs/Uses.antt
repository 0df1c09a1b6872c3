-- Tables export, and are used, as rules 38 and 39 say.
use Rattle.std.proofs.Common.{◌≡◌, ℕ, zero, suc, ◌<◌, ◌==◌, Bool, true, false, List, length, map, slice_get, Option}
use Rattle.std.proofs.Common.{Some, None, refl, sym, ap, subst, ◌∙◌, arith}
use Rattle.std.specs.Prelude.{option_and_then, option_map}
use Rattle.std.specs.List.{Contains}
use Rattle.std.proofs.lemmas.Bool.Decides.{nat_tests}
use Rattle.std.proofs.lemmas.Option.{slice_get_within}
use Rattle.sl_ast.specs.Trees.{Constructor, Item}
use Rattle.sl_ast.specs.Unfolding.{Placed}
use Rattle.sl_bind.proofs.BoundLemmas.{tables_listed}
use Rattle.sl_bind.specs.Binding.{constructors_of}
use Rattle.sl_faithful_accepted.proofs.Flats.{flat_at, flat_exports, flats_long, placed_at, unzipped}
use Rattle.sl_faithful_accepted.proofs.Operands.{operands_below}
use Rattle.sl_faithful_accepted.specs.Laws.{AreNumbered, BoundKeepUses, flats_of}
use Rattle.sl_spec_constructors.specs.Listed.{AreListed}
use Rattle.sl_spec_constructors.proofs.MemberLemmas.{of_gathered}
use Rattle.sl_section_equations.specs.Uses.{exported_size, exported_variable, export_variable}
use Rattle.sl_section_exports.specs.Exports.{does_export, exporting, heavy_place, if_so, misused_place, unexported_place}
use Rattle.sl_section_exports.specs.Spreading.{is_one_of}
use Rattle.sl_section_exports.proofs.SpreadLemmas.{some_passes}
use Rattle.sl_section_all.proofs.HeavyLemmas.{all_flat}
use Rattle.sl_section_all.specs.FlatSections.{Flat, flat_sections, sections_by, sections_fault, up_to}
use Rattle.sl_section_all.specs.Scopes.{Scopes, scopes_of}
use Rattle.sl_section_flat.specs.Numbered.{StepsBelow}
use Rattle.sl_section_flat.specs.Sections.{Step}
use Rattle.sl_section_flat.specs.Chains.{bytes_of}
use Rattle.sl_faithful_sections.proofs.Sound.{at_export}
use Rattle.sl_faithful_sections.specs.SoundLaws.{HasExport}
use Rattle.sl_spec.specs.Tables.{Ctor}
use Rattle.sl_spec.specs.declared.tables.Tables.{Tables}
use Rattle.sl_faithful_sections.specs.UseLaws.{HasSize}
use Rattle.sl_spec_tables.specs.Rows as all
use Rattle.sl_spec_tables.proofs.RowLemmas.{stands}
use Rattle.sl_spec_tables.specs.TableRules.{fault_or}
use Rattle.sl_spec_tables.specs.declared.faults.LateFault.{LateFault}
use Rattle.sl_spec_tables.specs.declared.faults.Place.{Place}
use Rattle.sl_section_weights.specs.Weights.{first_heavy}
use Rattle.sl_faithful_sections.specs.SizeLaws.{FitTheWhole, FitsAt}
use Rattle.sl_word.specs.declared.word.Size.{Size}

-- ---- rules 38 and 39

nowhere : (rule : ℕ) (place : Option Place) (other : Option LateFault) → fault_or rule place other ≡ None
    → (place ≡ None) × (other ≡ None)
nowhere rule (Some p) other h = absurd (let no : ⊥ = cc in no)
nowhere rule None other h = (refl, h)

abbrev steps_in : List Flat → List (List Step)
steps_in fs = map (λ f. f.steps) fs

-- no constructor breaks them
pub rules_hold : (t : Tables) (z : Scopes) (cs : List (Placed Constructor)) → sections_fault t z cs ≡ None
    → (unexported_place t cs (steps_in (flat_sections t z cs)) ≡ None)
    × (misused_place t cs (steps_in (flat_sections t z cs)) ≡ None)
unfolding sections_fault
rules_hold t z cs none =
    let heavy = first_heavy t z.macros cs in
    let some = steps_in (sections_by t z.macros cs (up_to heavy z.reaches)) in
    let same : some ≡ steps_in (flat_sections t z cs) = ap steps_in (all_flat t z cs heavy refl none) in
    let one = nowhere 38 (unexported_place t cs some) _ none in
    let two = nowhere 38 (heavy_place t heavy) _ one.1 in
    let three = nowhere 39 (misused_place t cs some) _ two.1 in (
      subst (λ (ss : List (List Step)). unexported_place t cs ss ≡ None) same one.0,
      subst (λ (ss : List (List Step)). misused_place t cs ss ≡ None) same three.0,
    )

-- ---- tables that export

equal : (m n : ℕ) → (m == n) ≡ true → m ≡ n
equal m n h = grind (arith, nat_tests)

-- what is in a list that is there where a test holds
if_contained : {X : Type 0} (b : Bool) (x y : X) → Contains (if_so b x) y → (b ≡ true) × (x ≡ y)
if_contained true x y (zero, inside, here) = (refl, here)
if_contained true x y (suc k, inside, here) = absurd (let no : ⊥ = omega (arith, inside) in no)
if_contained false x y (k, inside, here) = absurd (let no : ⊥ = omega (arith, inside) in no)

-- A constructor of the table exports.
record ExportsIn (rs : List all.Row) (b : ℕ) : Type 0 where
  pub number : ℕ
  pub row : all.Row
  pub there : slice_get rs number ≡ Some row
  pub exports : does_export row.1.1.section ≡ true
  pub is_of : row.0.table ≡ b

exports_in : (rs : List all.Row) (b : ℕ) → is_one_of (exporting rs) b ≡ true → ExportsIn rs b
exports_in rs b h =
    let n = some_passes (λ n. n == b) (exporting rs) h in
    let r = of_gathered (λ (r : all.Row). if_so (does_export r.1.1.section) r.0.table) rs n.0 n.1 in
    let is = if_contained (does_export r.0.1.1.section) r.0.0.table n.0 r.2 in
    let at = placed_at rs r.0 r.1 in
    record { number = at.0; row = r.0; there = at.1; exports = is.0; is_of = is.1 ∙ equal n.0 b n.2 }

-- the size of what is exported is there
sized_by : (own : List Size) (ss : List Step) (x : ℕ) → exported_variable ss ≡ Some x → x < length own
    → (size : ℕ) × (exported_size own ss ≡ Some size)
sized_by own ss x is inside =
    let size = stands own x inside in (
      bytes_of size.item,
      ap (λ (o : Option ℕ). option_and_then (λ v. option_map bytes_of (slice_get own v)) o) is
          ∙ ap (option_map bytes_of) size.is,
    )

has_size : (t : Tables) (last : List (Option ℕ)) (sizes : List (List Size)) (number : ℕ) (c : Ctor) (f : Flat)
    → FitsAt t last sizes number c f → HasExport f.steps
    → StepsBelow f.variables f.steps → HasSize last c.table
has_size t last sizes number c f own export numbered =
    let at = at_export f.variables f.steps export.what export.is numbered in
    let size = sized_by own.own f.steps (export_variable export.what) at.0 (omega (arith, at.1, own.fits.has.count)) in
    record { size = size.0; is = own.fits.alike size.0 size.1 }

-- The flat section of a constructor that exports.
record IsExporting (flats : List Flat) (number : ℕ) : Type 0 where
  pub flat : Flat
  pub there : slice_get flats number ≡ Some flat
  pub exports : HasExport flat.steps

is_exporting : (items : List Item) (t : Tables) → length t.constructors ≡ length (constructors_of items)
    → (number : ℕ) (r : all.Row)
    → slice_get (all.rows t (constructors_of items)) number ≡ Some r → does_export r.1.1.section ≡ true
    → IsExporting (flats_of items t) number
is_exporting items t counted number r there does =
    let at = unzipped t.constructors (constructors_of items) number r there in
    let inside = slice_get_within t.constructors number r.0 at.0 in
    let long = flats_long items t counted in
    let f = stands (flats_of items t) number (omega (arith, inside, long)) in
    let of = flat_at t (scopes_of items) (constructors_of items) number r.0 f.item at.0 f.is in
    let same : Some of.written ≡ Some r.1 = sym of.there ∙ at.1 in
    let written : of.written ≡ r.1 = cc in
    let export = flat_exports t (scopes_of items).macros of.reach r.0.operands of.written.1.section
    (ap (λ (p : Placed Constructor). does_export p.1.section) written ∙ does) in
    record { flat = f.item; there = f.is; exports = subst (λ (g : Flat). HasExport g.steps) of.is export }

module _ (items : List Item) (t : Tables) (sizes : List (List Size)) (listed : AreListed t (constructors_of items))
    (whole : FitTheWhole t (flats_of items t) sizes) where
  -- a table that exports has a size
  sized : AreNumbered t (flats_of items t) → (b : ℕ)
      → is_one_of (exporting (all.rows t (constructors_of items))) b ≡ true → HasSize whole.last b
  sized numbered b h =
      let e = exports_in (all.rows t (constructors_of items)) b h in
      let at = (unzipped t.constructors (constructors_of items) e.number e.row e.there).0 in
      let f = is_exporting items t listed.counted e.number e.row e.there e.exports in
      subst (HasSize whole.last) e.is_of
      (has_size t whole.last sizes e.number e.row.0 f.flat (whole.each e.number e.row.0 f.flat at f.there) f.exports
      (numbered e.number e.row.0 f.flat at f.there))

pub bound_keep_uses : BoundKeepUses
bound_keep_uses items t sizes parts whole numbered placed =
    let listed = tables_listed items t parts.stands in
    let z = scopes_of items in
    let cs = constructors_of items in
    let ss = steps_in (flats_of items t) in
    let hold = rules_hold t z cs parts.kept.holds in
    record {
      exported = hold.0;
      used = hold.1;
      sized = sized items t sizes listed whole numbered;
      places = placed;
      owners = λ k r is.
          let at = unzipped (all.rows t cs) ss k r is in
          listed.below k r.0.0 (unzipped t.constructors cs k r.0 at.0).0;
      operands = λ k r i o b is at meant.
          let row = unzipped (all.rows t cs) ss k r is in
          operands_below items t parts.stands k r.0.0 i o b (unzipped t.constructors cs k r.0 row.0).0 at meant;
    }
