-- The points at which a constructor is the choice among the sets of its table, and where its table chooses it.
use Rattle.std.proofs.Common.{◌≡◌, ◌≢◌, ◌↔◌, ℕ, zero, suc, ◌+◌, ◌<◌, ◌≤◌, ◌⊎◌, List, [], ◌∷◌, ◌++◌, length, below_more, Option, Some, None, refl, sym, ap, subst, ◌∙◌, inl, inr, arith}
use Rattle.std.specs.Prelude.{slice_get}
use Rattle.std.specs.List.{range_with_len}
use Rattle.std.proofs.lemmas.Bool.{cases_eq}
use Rattle.std.proofs.lemmas.List.Elements.{Contains-append_left, Contains-append_right, Contains-append_cases}
use Rattle.std.proofs.lemmas.Option.{same_Some, slice_get_within}
use Rattle.sl_asm.specs.Regions.{ArePicks, IsPicked, IsRegion}
use Rattle.sl_ast.specs.Trees.{Constructor}
use Rattle.sl_ast.specs.Unfolding.{Placed}
use Rattle.sl_conflict.specs.Ambiguity.{IsOf}
use Rattle.sl_conflict.specs.Kept.{HasChoices, IsPaired}
use Rattle.sl_conflict.specs.Soundness.{has_in, numbers}
use Rattle.sl_conflict.specs.TableTests.{AreSetsOf}
use Rattle.sl_conflict.specs.declared.table_sets.TableSets.{TableSets}
use Rattle.sl_cube.specs.Points.{InRange, IsInSome}
use Rattle.sl_cube.specs.declared.Cube.{Cube}
use Rattle.sl_cube.specs.declared.Point.{Point}
use Rattle.sl_cube_sets.specs.Sets.{HasAt, IsChoice, IsWithin, LiesBelow}
use Rattle.sl_cube_sets.specs.Unions.{has_set}
use Rattle.sl_cube_sets.specs.declared.CubeSet.{CubeSet}
use Rattle.sl_shape.specs.Readings.{HasPoint}
use Rattle.sl_shape_constraints.specs.Sets.{IsUnionOf}
use Rattle.sl_spec.specs.Tables.{Ctor}
use Rattle.sl_spec.specs.declared.tables.Tables.{Tables}
use Rattle.sl_spec_constructors.specs.Listed.{AreListed}

-- ---- the places of a table, one by one

in_left : (xs ys : List Cube) (p : Point) → IsInSome xs p → IsInSome (xs ++ ys) p
in_left xs ys p h = let there = Contains-append_left xs ys h.1 (h.0, h.2, h.3) in (there.0, h.1, there.1, there.2, h.4)

in_right : (xs ys : List Cube) (p : Point) → IsInSome ys p → IsInSome (xs ++ ys) p
in_right xs ys p h = let there = Contains-append_right xs ys h.1 (h.0, h.2, h.3) in (there.0, h.1, there.1, there.2, h.4)

in_either : (xs ys : List Cube) (p : Point) → IsInSome (xs ++ ys) p → IsInSome xs p ⊎ IsInSome ys p
in_either xs ys p h = elim (Contains-append_cases xs ys h.1 (h.0, h.2, h.3)) [
  | inl a ↦ inl (a.0, h.1, a.1, a.2, h.4)
  | inr b ↦ inr (b.0, h.1, b.1, b.2, h.4)
]

pub in_none : (p : Point) → IsInSome [] p → ⊥
in_none p h = omega (arith, h.2)

pub record FirstPicks (kept : TableSets) (number n : ℕ) (cubes : List Cube) : Type 0 where
  pub sound : (p : Point) → InRange p → IsInSome cubes p → IsPicked kept number p
  pub all : (k : ℕ) → k < n → slice_get kept.ctors.items k ≡ Some number → (p : Point) → InRange p → IsChoice has_set kept.sets.items p k → IsInSome cubes p

pub picks_none : (kept : TableSets) (number : ℕ) → FirstPicks kept number 0 []
picks_none kept number = record {
  sound = λ p range h. absurd (in_none p h);
  all = λ k below own p range choice. absurd (omega (arith, below));
}

pub picks_more : (kept : TableSets) (number n : ℕ) (cubes more : List Cube) → slice_get kept.ctors.items n ≡ Some number
    → ((p : Point) → InRange p → IsInSome more p ↔ IsChoice has_set kept.sets.items p n)
    → FirstPicks kept number n cubes → FirstPicks kept number (n + 1) (cubes ++ more)
picks_more kept number n cubes more own region f = record {
  sound = λ p range h. elim (in_either cubes more p h) [
    | inl old ↦ f.sound p range old
    | inr new ↦ record { place = n; own = own; choice = (region p range).0 new }
  ];
  all = below_more (λ k. slice_get kept.ctors.items k ≡ Some number → (p : Point) → InRange p → IsChoice has_set kept.sets.items p k → IsInSome (cubes ++ more) p) n
      (λ k lt is p range choice. in_left cubes more p (f.all k lt is p range choice))
      (λ is p range choice. in_right cubes more p ((region p range).1 choice));
}

pub picks_other : (kept : TableSets) (number n other : ℕ) (cubes : List Cube) → slice_get kept.ctors.items n ≡ Some other → other ≢ number
    → FirstPicks kept number n cubes → FirstPicks kept number (n + 1) cubes
picks_other kept number n other cubes is ne f = record {
  sound = f.sound;
  all = below_more (λ k. slice_get kept.ctors.items k ≡ Some number → (p : Point) → InRange p → IsChoice has_set kept.sets.items p k → IsInSome cubes p) n f.all
      (λ own p range choice. absurd (ne (same_Some other number (sym is ∙ own))));
}

pub picks_all : (kept : TableSets) (number n : ℕ) (cubes : List Cube) → length kept.ctors.items ≤ n → FirstPicks kept number n cubes → ArePicks kept number cubes
picks_all kept number n cubes all f = λ p range. (
  f.sound p range,
  λ h. f.all h.place (omega (arith, all, slice_get_within kept.ctors.items h.place number h.own)) h.own p range h.choice,
)

-- ---- one choice at a point

module _ {X : Type 0} (has : X → Point → Type 0) (xs : List X) where
  never_both : (i j : ℕ) → LiesBelow has xs i j → LiesBelow has xs j i → ⊥
  never_both i j a b =
      let inner : b.outer ≡ a.inner = same_Some b.outer a.inner (sym b.outer_is ∙ a.inner_is) in
      let outer : b.inner ≡ a.outer = same_Some b.inner a.outer (sym b.inner_is ∙ a.outer_is) in
      b.not_around (subst (λ (x : X). IsWithin has x b.inner) (sym inner) (subst (λ (y : X). IsWithin has a.inner y) (sym outer) a.within))

  one_index : (p : Point) (i j : ℕ) → IsChoice has xs p i → IsChoice has xs p j → i ≡ j
  one_index p i j h k = elim (cases_eq i j) [
    | inl same ↦ same
    | inr other ↦ absurd (never_both i j (h.below j k.has_point (λ e. other (sym e))) (k.below i h.has_point other))
  ]

-- ---- from the sets of a table to its constructors

pub some_at : {X : Type 0} (xs : List X) (i : ℕ) → i < length xs → (x : X) × (slice_get xs i ≡ Some x)
some_at [] i below = absurd (omega (arith, below))
some_at (x ∷ xs) zero below = (x, refl)
some_at (x ∷ xs) (suc i) below = some_at xs i (omega (arith, below))

pub number_at : (a n i x : ℕ) → slice_get (range_with_len a n) i ≡ Some x → x ≡ a + i
number_at a zero i x e = absurd cc
number_at a (suc n) zero x e = sym (same_Some a x e) ∙ omega arith
number_at a (suc n) (suc i) x e = number_at (a + 1) n i x e ∙ omega arith

there_at : (a n i : ℕ) → i < n → slice_get (range_with_len a n) i ≡ Some (a + i)
there_at a zero i below = absurd (omega (arith, below))
there_at a (suc n) zero below = ap Some (omega arith)
there_at a (suc n) (suc i) below = there_at (a + 1) n i (omega (arith, below)) ∙ ap Some (omega arith)

module _ (t : Tables) (cs : List (Placed Constructor)) (kept : List TableSets) (are : AreSetsOf t cs kept)
    (table : ℕ) (k : TableSets) (there : slice_get kept table ≡ Some k) (paired : IsPaired k) (p : Point) (range : InRange p) where
  -- the set of the constructor at a place
  record SetAt (place number : ℕ) : Type 0 where
    set : CubeSet
    set_is : slice_get k.sets.items place ≡ Some set
    union : IsUnionOf (HasPoint t cs number) set.cubes.items

  set_at : (place number : ℕ) → slice_get k.ctors.items place ≡ Some number → SetAt place number
  set_at place number e =
      let within = slice_get_within k.ctors.items place number e in
      let s = some_at k.sets.items place (omega (arith, paired, within)) in record {
        set = s.0;
        set_is = s.1;
        union = (are.sets table k place number s.0 there e s.1).union;
      }

  -- what is the choice among the sets is chosen by the table
  module _ (place number : ℕ) (e : slice_get k.ctors.items place ≡ Some number) (h : IsChoice has_set k.sets.items p place) where
    own : IsOf t.constructors table number
    own = are.own table k place number there e

    mine : SetAt place number
    mine = set_at place number e

    has_own : has_set mine.set p
    has_own = subst (λ (s : CubeSet). has_set s p) (same_Some h.has_point.0 mine.set (sym h.has_point.1 ∙ mine.set_is)) h.has_point.2

    among : slice_get (numbers t) number ≡ Some number
    among = there_at 0 (length t.constructors) number (slice_get_within t.constructors number own.ctor own.ctor_is) ∙ ap Some (omega arith)

    below : (j : ℕ) → HasAt (has_in t cs table) (numbers t) p j → j ≢ number → LiesBelow (has_in t cs table) (numbers t) number j
    below j has other =
        let is_j : has.0 ≡ j = number_at 0 (length t.constructors) j has.0 has.1 ∙ omega arith in
        let a = are.all table k has.0 there has.2.0 in
        let s = set_at a.0 has.0 a.1 in
        let apart : a.0 ≢ place = λ same.
        let again = sym a.1 ∙ ap (λ (i : ℕ). slice_get k.ctors.items i) same ∙ e in
        other (sym is_j ∙ same_Some has.0 number again) in
        let b = h.below a.0 (s.set, s.set_is, (s.union p range).1 has.2.1) apart in
        let inner : b.inner ≡ mine.set = same_Some b.inner mine.set (sym b.inner_is ∙ mine.set_is) in
        let outer : b.outer ≡ s.set = same_Some b.outer s.set (sym b.outer_is ∙ s.set_is) in
        let within : IsWithin has_set mine.set s.set =
        subst (λ (x : CubeSet). IsWithin has_set x s.set) inner (subst (λ (x : CubeSet). IsWithin has_set b.inner x) outer b.within) in
        let not_around : IsWithin has_set s.set mine.set → ⊥ =
        subst (λ (x : CubeSet). IsWithin has_set s.set x → ⊥) inner (subst (λ (x : CubeSet). IsWithin has_set x b.inner → ⊥) outer b.not_around) in record {
          inner = number;
          outer = has.0;
          inner_is = among;
          outer_is = has.1;
          within = λ q at inside. (has.2.0, (s.union q at).0 (within q at ((mine.union q at).1 inside.1)));
          not_around = λ around. not_around (λ q at inside. (mine.union q at).1 (around q at (has.2.0, (s.union q at).0 inside)).1);
        }

    choice : IsChoice (has_in t cs table) (numbers t) p number
    choice = record { has_point = (number, among, (own, (mine.union p range).0 has_own)); below = below }

  -- and what the table chooses is the choice among the sets, where there is one
  picked : (number : ℕ) → HasChoices k → IsChoice (has_in t cs table) (numbers t) p number → IsPicked k number p
  picked number settled h =
      let has = h.has_point in
      let is : has.0 ≡ number = number_at 0 (length t.constructors) number has.0 has.1 ∙ omega arith in
      let a = are.all table k has.0 there has.2.0 in
      let s = set_at a.0 has.0 a.1 in
      let best = settled p range a.0 (s.set, s.set_is, (s.union p range).1 has.2.1) in
      let here = best.1.has_point in
      let number_here = some_at k.ctors.items best.0 (omega (arith, paired, slice_get_within k.sets.items best.0 here.0 here.1)) in
      let chosen = choice best.0 number_here.0 number_here.1 best.1 in
      let same : number_here.0 ≡ number = one_index (has_in t cs table) (numbers t) p number_here.0 number chosen h in
      record { place = best.0; own = number_here.1 ∙ ap Some same; choice = best.1 }

pub region_is : (t : Tables) (cs : List (Placed Constructor)) (kept : List TableSets) (table number : ℕ) (k : TableSets) (out : List Cube)
    → AreSetsOf t cs kept → slice_get kept table ≡ Some k → IsPaired k → ((other : ℕ) → IsOf t.constructors other number → other ≡ table)
    → ArePicks k number out → IsRegion t cs number out
region_is t cs kept table number k out are there paired one picks = λ p range. (
  λ h.
      let x = (picks p range).0 h in
      (table, choice t cs kept are table k there paired p range x.place number x.own x.choice),
  λ chosen.
      let has = chosen.1.has_point in
      let is : has.0 ≡ number = number_at 0 (length t.constructors) number has.0 has.1 ∙ omega arith in
      let same : chosen.0 ≡ table = one chosen.0 (subst (λ (n : ℕ). IsOf t.constructors chosen.0 n) is has.2.0) in
      (picks p range).1 (picked t cs kept are table k there paired p range number (are.choices table k there)
      (subst (λ (x : ℕ). IsChoice (has_in t cs x) (numbers t) p number) same chosen.1)),
)

-- where no table has the constructor, it is nowhere chosen
pub region_none : (t : Tables) (cs : List (Placed Constructor)) (number : ℕ) → ((table : ℕ) → IsOf t.constructors table number → ⊥) → IsRegion t cs number []
region_none t cs number none = λ p range. (
  λ h. absurd (in_none p h),
  λ chosen.
      let has = chosen.1.has_point in
      let is : has.0 ≡ number = number_at 0 (length t.constructors) number has.0 has.1 ∙ omega arith in
      absurd (none chosen.0 (subst (λ (n : ℕ). IsOf t.constructors chosen.0 n) is has.2.0)),
)

-- a constructor's table is there
pub none_listed : (t : Tables) (cs : List (Placed Constructor)) (kept : List TableSets) (own : Ctor) (n table : ℕ) → AreListed t cs → length kept ≡ length t.tables
    → slice_get t.constructors n ≡ Some own → own.table ≡ table → slice_get kept table ≡ None → ⊥
none_listed t cs kept own n table listed counted own_is of_table none =
    let below = listed.below n own own_is in
    let k = some_at kept table (omega (arith, below, of_table, counted)) in
    let clash : ◌≡◌ {A = Option TableSets} None (Some k.0) = sym none ∙ k.1 in
    absurd cc
