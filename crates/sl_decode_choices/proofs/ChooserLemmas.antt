-- What choosers over the sets of sound tables choose.
use Rattle.std.proofs.Common.{◌≡◌, ◌≢◌, ℕ, zero, suc, ◌+◌, ◌<◌, ◌≤◌, ◌^◌, ◌%◌, inl, inr, List, [], ◌∷◌, ◌++◌, length, get_or, Option, Some, None, refl, sym, ap, subst, ◌∙◌, arith}
use Rattle.std.specs.Prelude.{All, option_and_then, slice_get}
use Rattle.std.specs.List.{range_with_len}
use Rattle.std.proofs.Math.Nat.{mod-eq_of_lt, mod-lt}
use Rattle.std.proofs.lemmas.Bool.{cases_lt}
use Rattle.std.proofs.Math.ListN.{get_or-append}
use Rattle.std.proofs.lemmas.List.{length-append}
use Rattle.std.proofs.lemmas.Nat.{pow_pos}
use Rattle.std.proofs.lemmas.Option.{get_or_from_slice_get, same_Some, slice_get-get_or, slice_get_past, slice_get_read, slice_get_within}
use Rattle.sl_ast.specs.Trees.{Constructor}
use Rattle.sl_ast.specs.Unfolding.{Placed}
use Rattle.sl_decode_choices.specs.Choices.{Chooses, IsChoiceOf, in_range}
use Rattle.sl_decode_choices.specs.Choosers.{AreFirst, picked_by}
use Rattle.sl_choose.specs.Choosers as choose
use Rattle.sl_choose.specs.Choosers.{IsPick, StandsFor}
use Rattle.sl_choose.specs.Picked.{picked}
use Rattle.sl_choose.specs.declared.chooser.Chooser.{Chooser}
use Rattle.sl_choose.proofs.PickLemmas.{picks_are_choices}
use Rattle.sl_conflict.specs.Ambiguity.{IsOf}
use Rattle.sl_conflict.specs.Kept.{IsPaired}
use Rattle.sl_conflict.specs.declared.table_sets.TableSets.{TableSets}
use Rattle.sl_shape_constraints.specs.Sets.{IsUnionOf}
use Rattle.sl_spec_constructors.specs.Listed.{AreListed}
use Rattle.sl_cube.specs.Points.{InRange}
use Rattle.sl_cube.specs.declared.Point.{Point}
use Rattle.sl_cube_sets.specs.Sets.{HasAt, IsChoice, IsUnmatched, IsWithin, LiesBelow}
use Rattle.sl_cube_sets.specs.Unions.{has_set}
use Rattle.sl_cube_sets.specs.declared.CubeSet.{CubeSet}
use Rattle.sl_shape.specs.Readings.{HasPoint}
use Rattle.sl_conflict.specs.Soundness.{IsSound, has_in, numbers}
use Rattle.sl_conflict.specs.TableTests.{AreSetsOf}
use Rattle.sl_spec.specs.declared.tables.Tables.{Tables}

some_at : {X : Type 0} (xs : List X) (i : ℕ) → i < length xs → (x : X) × (slice_get xs i ≡ Some x)
some_at [] i below = absurd (omega (arith, below))
some_at (x ∷ xs) zero below = (x, refl)
some_at (x ∷ xs) (suc i) below = some_at xs i (omega (arith, below))

-- a number in a row of numbers, and where it stands
number_at : (a n i x : ℕ) → slice_get (range_with_len a n) i ≡ Some x → x ≡ a + i
number_at a zero i x e = absurd cc
number_at a (suc n) zero x e = sym (same_Some a x e) ∙ omega arith
number_at a (suc n) (suc i) x e = number_at (a + 1) n i x e ∙ omega arith

there_at : (a n i : ℕ) → i < n → slice_get (range_with_len a n) i ≡ Some (a + i)
there_at a zero i below = absurd (omega (arith, below))
there_at a (suc n) zero below = ap Some (omega arith)
there_at a (suc n) (suc i) below = there_at (a + 1) n i (omega (arith, below)) ∙ ap Some (omega arith)

-- ---- from the sets of a table to its constructors

module _ (t : Tables) (cs : List (Placed Constructor)) (kept : List TableSets) (are : AreSetsOf t cs kept)
    (table : ℕ) (k : TableSets) (there : slice_get kept table ≡ Some k) (paired : IsPaired k) where
  -- the set of the constructor at a place
  record SetAt (place number : ℕ) : Type 0 where
    set : CubeSet
    set_is : slice_get k.sets.items place ≡ Some set
    union : IsUnionOf (HasPoint t cs number) set.cubes.items

  set_at : (place number : ℕ) → slice_get k.ctors.items place ≡ Some number → SetAt place number
  set_at place number e =
      let within = slice_get_within k.ctors.items place number e in
      let s = some_at k.sets.items place (omega (arith, paired, within)) in record {
        set = s.0;
        set_is = s.1;
        union = (are.sets table k place number s.0 there e s.1).union;
      }

  module _ (p : Point) (range : InRange p) where
    -- where no set has the point, no constructor has it
    unmatched : IsUnmatched has_set k.sets.items p → IsUnmatched (has_in t cs table) (numbers t) p
    unmatched none i has =
        let a = are.all table k has.0 there has.2.0 in
        let s = set_at a.0 has.0 a.1 in
        none a.0 (s.set, s.set_is, (s.union p range).1 has.2.1)

    module _ (place number : ℕ) (e : slice_get k.ctors.items place ≡ Some number) (h : IsChoice has_set k.sets.items p place) where
      own : IsOf t.constructors table number
      own = are.own table k place number there e

      mine : SetAt place number
      mine = set_at place number e

      has_own : has_set mine.set p
      has_own = subst (λ (s : CubeSet). has_set s p) (same_Some h.has_point.0 mine.set (sym h.has_point.1 ∙ mine.set_is)) h.has_point.2

      among : slice_get (numbers t) number ≡ Some number
      among = there_at 0 (length t.constructors) number (slice_get_within t.constructors number own.ctor own.ctor_is) ∙ ap Some (omega arith)

      below : (j : ℕ) → HasAt (has_in t cs table) (numbers t) p j → j ≢ number → LiesBelow (has_in t cs table) (numbers t) number j
      below j has other =
          let is_j : has.0 ≡ j = number_at 0 (length t.constructors) j has.0 has.1 ∙ omega arith in
          let a = are.all table k has.0 there has.2.0 in
          let s = set_at a.0 has.0 a.1 in
          let apart : a.0 ≢ place = λ same.
          let again = sym a.1 ∙ ap (λ (i : ℕ). slice_get k.ctors.items i) same ∙ e in
          other (sym is_j ∙ same_Some has.0 number again) in
          let b = h.below a.0 (s.set, s.set_is, (s.union p range).1 has.2.1) apart in
          let inner : b.inner ≡ mine.set = same_Some b.inner mine.set (sym b.inner_is ∙ mine.set_is) in
          let outer : b.outer ≡ s.set = same_Some b.outer s.set (sym b.outer_is ∙ s.set_is) in
          let within : IsWithin has_set mine.set s.set =
          subst (λ (x : CubeSet). IsWithin has_set x s.set) inner (subst (λ (x : CubeSet). IsWithin has_set b.inner x) outer b.within) in
          let not_around : IsWithin has_set s.set mine.set → ⊥ =
          subst (λ (x : CubeSet). IsWithin has_set s.set x → ⊥) inner (subst (λ (x : CubeSet). IsWithin has_set x b.inner → ⊥) outer b.not_around) in record {
            inner = number;
            outer = has.0;
            inner_is = among;
            outer_is = has.1;
            within = λ q at inside. (has.2.0, (s.union q at).0 (within q at ((mine.union q at).1 inside.1)));
            not_around = λ around. not_around (λ q at inside. (mine.union q at).1 (around q at (has.2.0, (s.union q at).0 inside)).1);
          }

      choice : IsChoice (has_in t cs table) (numbers t) p number
      choice = record { has_point = (number, among, (own, (mine.union p range).0 has_own)); below = below }

    -- what is picked among the sets is chosen among the constructors
    chosen : (o : Option ℕ) → IsPick k.ctors.items k.sets.items p o → Chooses t cs table p o
    chosen None h = unmatched h
    chosen (Some number) h = choice h.0 number h.1 h.2

-- ---- choosers of all tables

is_range : (p : Point) → InRange (in_range p)
is_range p = (mod-lt p.bytes (pow_pos 128), mod-lt p.context (pow_pos 64))

module _ (kept : List TableSets) (choosers : List Chooser) (all : AreFirst kept choosers (length kept)) (paired : All IsPaired kept)
    (t : Tables) (cs : List (Placed Constructor)) (listed : AreListed t cs) (are : AreSetsOf t cs kept) where
  at_table : (table : ℕ) (p : Point) (c : Chooser) (k : TableSets) → slice_get choosers table ≡ Some c → slice_get kept table ≡ Some k
      → Chooses t cs table (in_range p) (picked c (in_range p))
  at_table table p c k c_is k_is =
      let q = in_range p in
      let same : IsPaired k = subst IsPaired (get_or_from_slice_get kept table k k k_is) (paired table k (slice_get_within kept table k k_is)) in
      chosen t cs kept are table k k_is same q (is_range p) (picked c q)
      (picks_are_choices c k.ctors.items k.sets.items q (all.each table c k c_is k_is) same (are.choices table k k_is q (is_range p)))

  at_none : (table : ℕ) (q : Point) → length t.tables ≤ table → Chooses t cs table q None
  at_none table q past = λ i has.
      let is_of = has.2.0 in
      let below = listed.below has.0 is_of.ctor is_of.ctor_is in
      absurd (omega (arith, below, is_of.of_table, past))

  pub are_choices : IsChoiceOf t cs (picked_by choosers)
  are_choices table p = elim (cases_lt table (length choosers)) [
    | inl below ↦
        let c = some_at choosers table below in
        let k = some_at kept table (omega (arith, below, all.counted)) in
        subst (λ (o : Option Chooser). Chooses t cs table (in_range p) (option_and_then (λ x. picked x (in_range p)) o)) (sym c.1) (at_table table p c.0 k.0 c.1 k.1)
    | inr past ↦
        subst (λ (o : Option Chooser). Chooses t cs table (in_range p) (option_and_then (λ x. picked x (in_range p)) o)) (sym (slice_get_past choosers table past))
        (at_none table (in_range p) (omega (arith, past, all.counted, are.counted)))
  ]

-- ---- one chooser more

pub none_first : (kept : List TableSets) → AreFirst kept [] 0
none_first kept = record { counted = refl; each = λ table c k e. absurd cc }

pub one_more : (kept : List TableSets) (made more : List Chooser) (count : ℕ) (c : Chooser) (k : TableSets) → AreFirst kept made count
    → more ≡ made ++ c ∷ [] → slice_get kept count ≡ Some k → StandsFor c k.ctors.items k.sets.items → AreFirst kept more (count + 1)
one_more kept made more count c k first e there stands = record {
  counted = ap length e ∙ length-append made (c ∷ []) ∙ ap (λ n. n + 1) first.counted;
  each = λ table d l d_is l_is. elim (cases_lt table count) [
    | inl before ↦
        let within : table < length made = omega (arith, before, first.counted) in
        let long : table < length (made ++ c ∷ []) = omega (arith, within, length-append made (c ∷ [])) in
        let old : slice_get more table ≡ slice_get made table =
        ap (λ l. slice_get l table) e ∙ slice_get-get_or (made ++ c ∷ []) table c long
        ∙ ap Some (get_or-append made (c ∷ []) c table within) ∙ sym (slice_get-get_or made table c within) in
        first.each table d l (sym old ∙ d_is) l_is
    | inr past ↦
        let within = slice_get_within more table d d_is in
        let this : table ≡ count = omega (arith, within, past, first.counted, ap length e ∙ length-append made (c ∷ [])) in
        let new : slice_get more count ≡ Some c = ap (λ l. slice_get l count) e ∙ last made count c first.counted in
        let same_c : c ≡ d = same_Some c d (sym new ∙ ap (slice_get more) (sym this) ∙ d_is) in
        let same_k : k ≡ l = same_Some k l (sym there ∙ ap (slice_get kept) (sym this) ∙ l_is) in
        subst (λ (x : Chooser). StandsFor x l.ctors.items l.sets.items) same_c (subst (λ (x : TableSets). StandsFor c x.ctors.items x.sets.items) same_k stands)
  ];
}
  where
    last : (xs : List Chooser) (n : ℕ) (x : Chooser) → length xs ≡ n → slice_get (xs ++ x ∷ []) n ≡ Some x
    last [] zero x h = refl
    last [] (suc n) x h = absurd (omega (arith, h))
    last (y ∷ ys) zero x h = absurd (omega (arith, h))
    last (y ∷ ys) (suc n) x h = last ys n x (omega (arith, h))

-- ---- points of the program

-- a point of the program is in range
pub same_point : (p : Point) → p.bytes < 2 ^ 128 → p.context < 2 ^ 64 → in_range p ≡ p
same_point p bytes context = λ i. record { bytes = mod-eq_of_lt bytes i; context = mod-eq_of_lt context i }

-- what a chooser picks is what its table chooses
pub pick_is : (choosers : List Chooser) (table : ℕ) (p : Point) (c : Chooser) → table < length choosers → c ≡ get_or choosers table c
    → (o : Option ℕ) → o ≡ picked c (in_range p) → o ≡ picked_by choosers table p
pick_is choosers table p c below is o e =
    e ∙ sym (ap (option_and_then (λ x. picked x (in_range p))) (slice_get_read choosers (length choosers) table c refl below is))

pub whole : (kept : List TableSets) (choosers : List Chooser) (count : ℕ) → length kept ≤ count → count ≤ length kept → AreFirst kept choosers count → AreFirst kept choosers (length kept)
whole kept choosers count past within first = subst (λ (n : ℕ). AreFirst kept choosers n) (omega (arith, past, within)) first
