-- From the sets of a table to its constructors, and back.
use Rattle.std.proofs.Common.{◌≡◌, ◌≢◌, ℕ, zero, suc, ◌+◌, ◌<◌, inl, inr, List, [], ◌∷◌, length, Option, Some, None, refl, sym, ap, subst, ◌∙◌, arith}
use Rattle.std.specs.Prelude.{slice_get}
use Rattle.std.specs.List.{range_with_len}
use Rattle.std.proofs.lemmas.Bool.{cases_eq}
use Rattle.std.proofs.lemmas.Option.{same_Some, slice_get_within}
use Rattle.sl_ast.specs.Trees.{Constructor}
use Rattle.sl_ast.specs.Unfolding.{Placed}
use Rattle.sl_conflict.specs.Kept.{IsPaired}
use Rattle.sl_conflict.specs.Soundness.{has_in, numbers}
use Rattle.sl_conflict.specs.TableTests.{AreSetsOf}
use Rattle.sl_conflict.specs.declared.table_sets.TableSets.{TableSets}
use Rattle.sl_cube.specs.Points.{InRange}
use Rattle.sl_cube.specs.declared.Point.{Point}
use Rattle.sl_cube_sets.specs.Sets.{HasAt, IsChoice, IsLeastOf, IsUnmatched, IsWithin, LiesBelow}
use Rattle.sl_cube_sets.specs.Unions.{has_set}
use Rattle.sl_cube_sets.specs.declared.CubeSet.{CubeSet}
use Rattle.sl_gap_tables.specs.Tables.{IsChosenAt}
use Rattle.sl_shape.specs.Readings.{HasPoint}
use Rattle.sl_shape_constraints.specs.Sets.{IsUnionOf}
use Rattle.sl_spec.specs.declared.tables.Tables.{Tables}

-- ---- lists

pub some_at : {X : Type 0} (xs : List X) (i : ℕ) → i < length xs → (x : X) × (slice_get xs i ≡ Some x)
some_at [] i below = absurd (omega (arith, below))
some_at (x ∷ xs) zero below = (x, refl)
some_at (x ∷ xs) (suc i) below = some_at xs i (omega (arith, below))

-- a number in a row of numbers
number_at : (a n i x : ℕ) → slice_get (range_with_len a n) i ≡ Some x → x ≡ a + i
number_at a zero i x e = absurd (cc)
number_at a (suc n) zero x e = sym (same_Some a x e) ∙ omega arith
number_at a (suc n) (suc i) x e = number_at (a + 1) n i x e ∙ omega arith

there_at : (a n i : ℕ) → i < n → slice_get (range_with_len a n) i ≡ Some (a + i)
there_at a zero i below = absurd (omega (arith, below))
there_at a (suc n) zero below = ap Some (omega arith)
there_at a (suc n) (suc i) below = there_at (a + 1) n i (omega (arith, below)) ∙ ap Some (omega arith)

-- ---- one choice

module _ {X : Type 0} (has : X → Point → Type 0) (xs : List X) where
  -- two sets don't lie properly within each other
  pub never_both : (i j : ℕ) → LiesBelow has xs i j → LiesBelow has xs j i → ⊥
  never_both i j a b =
      let inner : b.outer ≡ a.inner = same_Some b.outer a.inner (sym b.outer_is ∙ a.inner_is) in
      let outer : b.inner ≡ a.outer = same_Some b.inner a.outer (sym b.inner_is ∙ a.outer_is) in
      b.not_around (subst (λ (x : X). IsWithin has x b.inner) (sym inner) (subst (λ (y : X). IsWithin has a.inner y) (sym outer) a.within))

  pub one_index : (p : Point) (i j : ℕ) → IsChoice has xs p i → IsChoice has xs p j → i ≡ j
  one_index p i j h k = elim (cases_eq i j) [
    | inl same ↦ same
    | inr other ↦ absurd (never_both i j (h.below j k.has_point (λ e. other (sym e))) (k.below i h.has_point other))
  ]

pub least_same : (Q S : Point → Type 0) (to : (q : Point) → InRange q → Q q → S q) (from : (q : Point) → InRange q → S q → Q q) (found : Option Point)
    → IsLeastOf Q found → IsLeastOf S found
least_same Q S to from None h = λ q range s. h q range (from q range s)
least_same Q S to from (Some p) h = record { in_range = h.in_range; here = to p h.in_range h.here; least = λ q range s. h.least q range (from q range s) }

-- ---- the sets of a table

module _ (t : Tables) (cs : List (Placed Constructor)) (kept : List TableSets) (are : AreSetsOf t cs kept)
    (table : ℕ) (k : TableSets) (there : slice_get kept table ≡ Some k) (paired : IsPaired k) where
  -- the set of the constructor at a place
  pub record SetAt (place number : ℕ) : Type 0 where
    pub set : CubeSet
    pub set_is : slice_get k.sets.items place ≡ Some set
    pub union : IsUnionOf (HasPoint t cs number) set.cubes.items

  pub set_at : (place number : ℕ) → slice_get k.ctors.items place ≡ Some number → SetAt place number
  set_at place number e =
      let within = slice_get_within k.ctors.items place number e in
      let s = some_at k.sets.items place (omega (arith, paired, within)) in record {
        set = s.0;
        set_is = s.1;
        union = (are.sets table k place number s.0 there e s.1).union;
      }

  -- each set is that of a constructor
  pub ctor_at : (place : ℕ) (s : CubeSet) → slice_get k.sets.items place ≡ Some s → (number : ℕ) × (slice_get k.ctors.items place ≡ Some number)
  ctor_at place s e =
      let within = slice_get_within k.sets.items place s e in
      some_at k.ctors.items place (omega (arith, paired, within))

  among : (place number : ℕ) → slice_get k.ctors.items place ≡ Some number → slice_get (numbers t) number ≡ Some number
  among place number e =
      let own = are.own table k place number there e in
      there_at 0 (length t.constructors) number (slice_get_within t.constructors number own.ctor own.ctor_is) ∙ ap Some (omega arith)

  module _ (p : Point) (range : InRange p) where
    pub has_up : (place number : ℕ) → slice_get k.ctors.items place ≡ Some number → HasAt has_set k.sets.items p place
        → HasAt (has_in t cs table) (numbers t) p number
    has_up place number e has = (
      number,
      among place number e,
      (are.own table k place number there e, ((are.sets table k place number has.0 there e has.1).union p range).0 has.2),
    )

    pub has_down : (number : ℕ) → HasAt (has_in t cs table) (numbers t) p number
        → (place : ℕ) × (slice_get k.ctors.items place ≡ Some number) × HasAt has_set k.sets.items p place
    has_down number has =
        let is : has.0 ≡ number = number_at 0 (length t.constructors) number has.0 has.1 ∙ omega arith in
        let a = are.all table k has.0 there has.2.0 in
        let s = set_at a.0 has.0 a.1 in
        (a.0, a.1 ∙ ap Some is, (s.set, s.set_is, (s.union p range).1 has.2.1))

    pub unmatched_up : IsUnmatched has_set k.sets.items p → IsUnmatched (has_in t cs table) (numbers t) p
    unmatched_up none number has = let d = has_down number has in none d.0 d.2

    pub unmatched_down : IsUnmatched (has_in t cs table) (numbers t) p → IsUnmatched has_set k.sets.items p
    unmatched_down none place has = let n = ctor_at place has.0 has.1 in none n.0 (has_up place n.0 n.1 has)

  below_up : (i j m n : ℕ) → slice_get k.ctors.items i ≡ Some m → slice_get k.ctors.items j ≡ Some n → LiesBelow has_set k.sets.items i j
      → LiesBelow (has_in t cs table) (numbers t) m n
  below_up i j m n e f b =
      let inner = are.sets table k i m b.inner there e b.inner_is in
      let outer = are.sets table k j n b.outer there f b.outer_is in record {
        inner = m;
        outer = n;
        inner_is = among i m e;
        outer_is = among j n f;
        within = λ q at inside. (are.own table k j n there f, (outer.union q at).0 (b.within q at ((inner.union q at).1 inside.1)));
        not_around = λ around. b.not_around (λ q at inside.
            (inner.union q at).1 (around q at (are.own table k j n there f, (outer.union q at).0 inside)).1);
      }

  module _ (p : Point) (range : InRange p) where
    pub choice_up : (place number : ℕ) → slice_get k.ctors.items place ≡ Some number → IsChoice has_set k.sets.items p place
        → IsChoice (has_in t cs table) (numbers t) p number
    choice_up place number e h = record {
      has_point = has_up p range place number e h.has_point;
      below = λ j has other.
          let d = has_down p range j has in
          let apart : d.0 ≢ place = λ same. other (same_Some j number (sym d.1 ∙ ap (λ (i : ℕ). slice_get k.ctors.items i) same ∙ e)) in
          below_up place d.0 number j e d.1 (h.below d.0 d.2 apart);
    }

    -- the choice among the constructors is that of some set
    pub chosen_down : (number : ℕ) → IsChoice (has_in t cs table) (numbers t) p number → IsChosenAt k number p
    chosen_down number h =
        let d = has_down p range number h.has_point in
        let one = are.choices table k there p range d.0 d.2 in
        let n = ctor_at one.0 one.1.has_point.0 one.1.has_point.1 in
        let same : n.0 ≡ number = one_index (has_in t cs table) (numbers t) p n.0 number (choice_up one.0 n.0 n.1 one.1) h in
        record { place = one.0; ctor_is = n.1 ∙ ap Some same; choice = one.1 }
