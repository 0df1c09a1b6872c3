-- The verdict on tables: from unions of cubes to the points of patterns; there is one verdict, and it can't be that there is none.
use Rattle.std.proofs.Common.{◌≡◌, ℕ, zero, suc, ◌⊎◌, inl, inr, List, [], ◌∷◌, length, Option, Some, refl, sym, ap, subst, ◌∙◌, arith}
use Rattle.std.specs.Prelude.{option_map, slice_get}
use Rattle.std.proofs.lemmas.Option.{get_or_from_slice_get, same_Some, slice_get-map, slice_get_within}
use Rattle.sl_ast.specs.Trees.{Constructor}
use Rattle.sl_ast.specs.Unfolding.{Placed}
use Rattle.sl_conflict.specs.Ambiguity as cubes
use Rattle.sl_conflict.specs.Ambiguity.{AreSettled, IsFirstAmbiguous, IsOf, Tells}
use Rattle.sl_conflict.specs.Kept.{AreTablesOf, HasChoices}
use Rattle.sl_conflict.specs.Rows.{Row, of_table, rows, rows_from}
use Rattle.sl_conflict.specs.declared.judging.ConflictError.{ConflictError}
use Rattle.sl_conflict.specs.declared.judging.ConflictError.TheVariants as conflict
use Rattle.sl_conflict.specs.declared.table_sets.TableSets.{TableSets}
use Rattle.sl_conflict.proofs.AmbiguityLemmas.{are_settled_alike, first_ambiguous_alike, first_ambiguous_is_one, settled_not_ambiguous, some_verdict}
use Rattle.sl_conflict.proofs.JudgeLemmas.{all_choices}
use Rattle.sl_conflict.proofs.NumberLemmas.{numbers_are_of, rows_alike}
use Rattle.sl_conflict.proofs.RowLemmas.{down, number_is, row_is_of, up}
use Rattle.sl_conflict.proofs.SpreadLemmas.{made_of}
use Rattle.sl_shape_constraints.specs.Sets.{IsUnionOf}
use Rattle.sl_cube.specs.declared.Cube.{Cube}
use Rattle.sl_cube.specs.declared.Point.{Point}
use Rattle.sl_spec.specs.Tables.{Ctor}
use Rattle.sl_cube_sets.specs.declared.CubeSet.{CubeSet}
use Rattle.sl_cube_sets.specs.declared.report.Report.{Report}
use Rattle.sl_cube_sets.proofs.AlikeLemmas.{AreAlike}
use Rattle.sl_base_surely.specs.Surely.{Surely}
use Rattle.sl_base_surely.proofs.SurelyLemmas.{surely, surely_map, surely_then}
use Rattle.sl_shape.specs.Readings.{HasPoint, IsShaped}
use Rattle.sl_shape.specs.Tables.{AreShaped, IsFirstFault}
use Rattle.sl_shape.specs.declared.faults.Fault.{Fault}
use Rattle.sl_shape.proofs.FirstLemmas.{first_fault_one, shaped_excludes}
use Rattle.sl_shape.proofs.ReadingLemmas.{is_shaped, sets_have_points}
use Rattle.sl_shape.proofs.SomeReading.{some_reading}
use Rattle.sl_spec.specs.declared.tables.Tables.{Tables}
use Rattle.sl_conflict.specs.Soundness.{IsAmbiguousAt, IsSound, has_in, numbers}
use Rattle.sl_conflict.specs.TableTests.{AreSetsOf, Stand, TellsTable}

-- ---- rows

set_from : (n : ℕ) (ctors : List Ctor) (sets : List CubeSet) (i : ℕ) (r : Row) → slice_get (rows_from n ctors sets) i ≡ Some r → slice_get sets i ≡ Some r.set
set_from n [] sets i r e = absurd cc
set_from n (c ∷ ctors) [] i r e = absurd cc
set_from n (c ∷ ctors) (s ∷ sets) zero r e = ap (λ (x : Row). Some x.set) (same_Some (record { number = n; table = c.table; set = s }) r e)
set_from n (c ∷ ctors) (s ∷ sets) (suc i) r e = set_from (suc n) ctors sets i r e

-- the set of a row is the one at its index
row_set : (ctors : List Ctor) (sets : List CubeSet) (i : ℕ) (r : Row) → slice_get (rows ctors sets) i ≡ Some r → slice_get sets i ≡ Some r.set
unfolding rows
row_set ctors sets i r e = set_from 0 ctors sets i r e

-- there is a row of each constructor, where each has a set
row_from : (n : ℕ) (ctors : List Ctor) (sets : List CubeSet) (i : ℕ) (c : Ctor) → length sets ≡ length ctors → slice_get ctors i ≡ Some c
    → (r : Row) × (slice_get (rows_from n ctors sets) i ≡ Some r)
row_from n [] sets i c long e = absurd cc
row_from n (x ∷ ctors) [] i c long e = absurd cc
row_from n (x ∷ ctors) (s ∷ sets) zero c long e = (record { number = n; table = x.table; set = s }, refl)
row_from n (x ∷ ctors) (s ∷ sets) (suc i) c long e = row_from (suc n) ctors sets i c (omega (arith, long)) e

some_row : (ctors : List Ctor) (sets : List CubeSet) (i : ℕ) (c : Ctor) → length sets ≡ length ctors → slice_get ctors i ≡ Some c
    → (r : Row) × (slice_get (rows ctors sets) i ≡ Some r)
unfolding rows
some_row ctors sets i c long e = row_from 0 ctors sets i c long e

-- ---- cubes that have the points of patterns

module _ (t : Tables) (cs : List (Placed Constructor)) (sets : List CubeSet) (long : length sets ≡ length t.constructors)
    (each : (i : ℕ) (s : CubeSet) → slice_get sets i ≡ Some s → IsUnionOf (HasPoint t cs i) s.cubes.items) where
  alike : (table : ℕ) → AreAlike (cubes.has_in table) (has_in t cs table) (rows t.constructors sets) (numbers t)
  alike table = rows_alike t.constructors (HasPoint t cs) sets long each table

  -- tables that are settled by their cubes are settled by their patterns
  pub settled_by : AreSettled cubes.has_in (rows t.constructors sets) (length t.tables) → AreSettled (has_in t cs) (numbers t) (length t.tables)
  settled_by settled = are_settled_alike cubes.has_in (has_in t cs) (rows t.constructors sets) (numbers t) (length t.tables) (λ table below. alike table) settled

  -- so with the first one that isn't settled
  pub ambiguous_by : (table : ℕ) (told : Report) → IsFirstAmbiguous cubes.has_in (rows t.constructors sets) t.constructors (length t.tables) table told
      → IsFirstAmbiguous (has_in t cs) (numbers t) t.constructors (length t.tables) table told
  ambiguous_by table told first =
      first_ambiguous_alike cubes.has_in (has_in t cs) (rows t.constructors sets) (numbers t) (length t.tables) (λ table below. alike table) t.constructors table told first

-- ---- what the code gives

-- The constructor at a place of a table is one of it, and its set is the one there.
record RowAt (t : Tables) (sets : List CubeSet) (k : TableSets) (table place number : ℕ) : Type 0 where
  is_of : IsOf t.constructors table number
  set_is : slice_get sets number ≡ slice_get k.sets.items place

module _ (t : Tables) (cs : List (Placed Constructor)) (stand : Stand t cs) (sets : List CubeSet) (hulls : List (Option Cube))
    (are : AreShaped t cs sets hulls) (counted : length sets ≡ length cs) where
  long : length sets ≡ length t.constructors
  long = counted ∙ sym stand.listed.counted

  -- each set has the points of its constructor
  pub each_union : (i : ℕ) (s : CubeSet) → slice_get sets i ≡ Some s → IsUnionOf (HasPoint t cs i) s.cubes.items
  each_union i s e =
      let has = sets_have_points t cs stand.listed sets hulls are i (omega (arith, counted, slice_get_within sets i s e)) in
      subst (λ (x : CubeSet). IsUnionOf (HasPoint t cs i) x.cubes.items) (same_Some has.set s (sym has.set_is ∙ e)) has.union

  pub is_sound : AreSettled cubes.has_in (rows t.constructors sets) (length t.tables) → IsSound t cs
  is_sound settled = record { shaped = is_shaped t cs sets hulls are; settled = settled_by t cs sets long each_union settled }

  pub is_refused : (error : ConflictError) → Tells t.constructors (length t.tables) (rows t.constructors sets) error → TellsTable t cs error
  is_refused (conflict.Ambiguous table first second both apart) tells = record {
    shaped = is_shaped t cs sets hulls are;
    first = ambiguous_by t cs sets long each_union table (record { both = both; first = first; second = second; apart = apart }) tells;
  }
  is_refused conflict.NoMemory tells = tt

  -- the sets of each table are those of its constructors
  pub are_sets : (kept : List TableSets) → AreTablesOf (length t.tables) (rows t.constructors sets) kept → AreSettled cubes.has_in (rows t.constructors sets) (length t.tables)
      → AreSetsOf t cs kept
  are_sets kept tables settled = record {
    counted = tables.counted;
    own = λ table k place number at e. let there = row_at table k place number at e in there.is_of;
    all = place_of;
    sets = λ table k place number set at e f. let there = row_at table k place number at e in record {
      union = each_union number set (there.set_is ∙ f);
    };
    choices = λ table k at.
        let all = all_choices t.constructors sets kept (length t.tables) tables settled in
        subst (λ (x : TableSets). HasChoices x) (get_or_from_slice_get kept table k k at) (all table k (slice_get_within kept table k at));
  }
    where
      row_at : (table : ℕ) (k : TableSets) (place number : ℕ) → slice_get kept table ≡ Some k → slice_get k.ctors.items place ≡ Some number → RowAt t sets k table place number
      row_at table k place number at e =
          let of = tables.each table k at in
          let r = made_of (λ (x : Row). x.number) (slice_get (of_table table (rows t.constructors sets)) place) number
          (sym (slice_get-map (λ (x : Row). x.number) (of_table table (rows t.constructors sets)) place) ∙ ap (λ (l : List ℕ). slice_get l place) (sym of.ctors) ∙ e) in
          let there = up table (rows t.constructors sets) place r.0 r.1 in
          let index : r.0.number ≡ there.0 = number_is t.constructors sets there.0 r.0 there.1 in
          let number_there : number ≡ there.0 = sym r.2 ∙ index in record {
            is_of = subst (λ (i : ℕ). IsOf t.constructors table i) (sym number_there)
                (subst (λ (b : ℕ). IsOf t.constructors b there.0) there.2 (row_is_of t.constructors sets there.0 r.0 there.1));
            set_is = ap (λ (i : ℕ). slice_get sets i) number_there ∙ row_set t.constructors sets there.0 r.0 there.1
                ∙ sym (ap (λ (l : List CubeSet). slice_get l place) of.sets ∙ slice_get-map (λ (x : Row). x.set) (of_table table (rows t.constructors sets)) place
                ∙ ap (option_map (λ (x : Row). x.set)) r.1);
          }

      -- where the constructor of a number stands
      place_of : (table : ℕ) (k : TableSets) (number : ℕ) → slice_get kept table ≡ Some k → IsOf t.constructors table number → (place : ℕ) × (slice_get k.ctors.items place ≡ Some number)
      place_of table k number at is_of =
          let of = tables.each table k at in
          let r = some_row t.constructors sets number is_of.ctor long is_of.ctor_is in
          let row_of = row_is_of t.constructors sets number r.0 r.1 in
          let same = ap (λ (c : Ctor). c.table) (same_Some row_of.ctor is_of.ctor (sym row_of.ctor_is ∙ is_of.ctor_is)) in
          let in_table : r.0.table ≡ table = sym row_of.of_table ∙ same ∙ is_of.of_table in
          let there = down table (rows t.constructors sets) number r.0 r.1 in_table in (
            there.0,
            ap (λ (l : List ℕ). slice_get l there.0) of.ctors ∙ slice_get-map (λ (x : Row). x.number) (of_table table (rows t.constructors sets)) there.0
                ∙ ap (option_map (λ (x : Row). x.number)) there.1 ∙ ap Some (number_is t.constructors sets number r.0 r.1),
          )

-- ---- one verdict, and some

module _ (t : Tables) (cs : List (Placed Constructor)) where
  -- who has a point in a table is a constructor of it
  of : (table i x : ℕ) (p : Point) → slice_get (numbers t) i ≡ Some x → has_in t cs table x p → IsOf t.constructors table i
  of = numbers_are_of t.constructors (HasPoint t cs)

  -- The tables are sound, or a pattern has a fault, or a table isn't settled.
  abbrev pub Verdict : Type 0
  Verdict = IsSound t cs ⊎ (((ctor : ℕ) × (f : Fault) × IsFirstFault t cs ctor f) ⊎ ((table : ℕ) × (told : Report) × IsAmbiguousAt t cs table told))

  pub sound_not_ambiguous : (table : ℕ) (told : Report) → IsSound t cs → IsAmbiguousAt t cs table told → ⊥
  sound_not_ambiguous table told sound at =
      settled_not_ambiguous (has_in t cs) (numbers t) t.constructors (length t.tables) table told sound.settled at.first

  pub one_ambiguous : (table other : ℕ) (told said : Report) → IsAmbiguousAt t cs table told → IsAmbiguousAt t cs other said → (table ≡ other) × (told ≡ said)
  one_ambiguous table other told said h g =
      first_ambiguous_is_one (has_in t cs) (numbers t) t.constructors of (length t.tables) table other told said h.first g.first

  -- of tables whose patterns have no fault
  settled_or_not : IsShaped t cs → Surely Verdict
  settled_or_not shaped = surely_map (λ how. elim how [
    | inl settled ↦ inl (record { shaped = shaped; settled = settled })
    | inr first ↦ inr (inr (first.0, first.1, record { shaped = shaped; first = first.2 }))
  ]) (some_verdict (has_in t cs) (numbers t) t.constructors of (length t.tables))

  module _ (stand : Stand t cs) where
    pub sound_not_faulty : (ctor : ℕ) (f : Fault) → IsSound t cs → IsFirstFault t cs ctor f → ⊥
    sound_not_faulty ctor f sound first = shaped_excludes t cs stand.listed sound.shaped (ctor, f, first)

    pub faulty_not_ambiguous : (ctor : ℕ) (f : Fault) (table : ℕ) (told : Report) → IsFirstFault t cs ctor f → IsAmbiguousAt t cs table told → ⊥
    faulty_not_ambiguous ctor f table told first at = shaped_excludes t cs stand.listed at.shaped (ctor, f, first)

    pub one_fault : (ctor other : ℕ) (f g : Fault) → IsFirstFault t cs ctor f → IsFirstFault t cs other g → (ctor ≡ other) × (f ≡ g)
    one_fault ctor other f g h k = first_fault_one t cs stand.listed ctor other f g h k

    -- it can't be that there is no verdict
    pub some_judgement : Surely Verdict
    some_judgement = surely_then (some_reading t cs stand.listed stand.acyclic) (λ how. elim how [
      | inl shaped ↦ settled_or_not shaped
      | inr faulty ↦ surely (inr (inl faulty))
    ])
