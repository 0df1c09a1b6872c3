-- What holds of the sets of one table, by their indexes, holds of its constructors among all, by their numbers.
use Rattle.std.proofs.Common.{◌≡◌, ℕ, ◌<◌, inl, inr, List, map, Option, Some, None, refl, sym, ap, ◌∙◌, subst, arith}
use Rattle.std.specs.Prelude.{slice_get, option_map}
use Rattle.std.proofs.lemmas.Option.{slice_get-map, same_Some}
use Rattle.sl_cube.specs.declared.Point.{Point}
use Rattle.sl_cube_sets.specs.Reports.{DifferAs, IsLeastOnlyIn, IsReport}
use Rattle.sl_cube_sets.specs.Sets.{HasAt, IsChoice, IsFirstPair, IsLeastWhere, IsPair, IsSettled, IsUnsettledAt, IsWithin, LiesBelow}
use Rattle.sl_cube_sets.specs.Unions.{has_set}
use Rattle.sl_cube_sets.specs.declared.CubeSet.{CubeSet}
use Rattle.sl_cube_sets.specs.declared.report.Apart.{Apart}
use Rattle.sl_cube_sets.specs.declared.report.Apart.TheVariants.{Same, Two}
use Rattle.sl_cube_sets.specs.declared.report.Report.{Report}
use Rattle.sl_conflict.specs.Ambiguity.{has_in}
use Rattle.sl_conflict.specs.Rows.{Row, of_table}
use Rattle.sl_conflict.proofs.RowLemmas.{down, keeps_order, up}

-- what a value is made of
pub made_of : {A B : Type 0} (f : A → B) (o : Option A) (y : B) → option_map f o ≡ Some y → (x : A) × (o ≡ Some x) × (f x ≡ y)
made_of f None y e = absurd cc
made_of f (Some x) y e = (x, refl, same_Some (f x) y e)

module _ (rs : List Row) (t : ℕ) (numbered : (i : ℕ) (r : Row) → slice_get rs i ≡ Some r → r.number ≡ i) where
  pub sets : List CubeSet
  sets = map (λ (r : Row). r.set) (of_table t rs)

  -- The row is at the first index among those of the table, and at the second among all.
  pub record Stands (i k : ℕ) : Type 0 where
    pub row : Row
    pub in_table : slice_get (of_table t rs) i ≡ Some row
    pub in_all : slice_get rs k ≡ Some row
    pub of : row.table ≡ t

  pub stands_up : (i : ℕ) (r : Row) → slice_get (of_table t rs) i ≡ Some r → Stands i r.number
  stands_up i r e =
      let there = up t rs i r e in
      record { row = r; in_table = e; in_all = ap (slice_get rs) (numbered there.0 r there.1) ∙ there.1; of = there.2 }

  one_up : (i k l : ℕ) → Stands i k → Stands i l → k ≡ l
  one_up i k l a b =
      let same : a.row ≡ b.row = same_Some a.row b.row (sym a.in_table ∙ b.in_table) in
      sym (numbered k a.row a.in_all) ∙ ap (λ (r : Row). r.number) same ∙ numbered l b.row b.in_all

  rises : (i j k l : ℕ) → Stands i k → Stands j l → i < j → k < l
  rises i j k l a b less =
      let there = keeps_order t rs i j a.row b.row less a.in_table b.in_table in
      let ak = numbered k a.row a.in_all in
      let bl = numbered l b.row b.in_all in
      let at = numbered there.0 a.row there.3 in
      let bt = numbered there.1 b.row there.4 in
      let than = there.2 in
      omega arith

  one_down : (i j k : ℕ) → Stands i k → Stands j k → i ≡ j
  one_down i j k a b =
      let first : i < j → ⊥ = λ less. let never = rises i j k k a b less in omega arith in
      let second : j < i → ⊥ = λ less. let never = rises j i k k b a less in omega arith in
      apart i j first second
    where
      apart : (i j : ℕ) → (i < j → ⊥) → (j < i → ⊥) → i ≡ j
      apart i j f s = grind arith

  falls : (i j k l : ℕ) → Stands i k → Stands j l → k < l → i < j
  falls i j k l a b less =
      let same : i ≡ j → ⊥ = λ e. let never = one_up j k l (subst (λ x. Stands x k) e a) b in omega arith in
      let after : j < i → ⊥ = λ more. let never = rises j i l k b a more in omega arith in
      below i j same after
    where
      below : (i j : ℕ) → (i ≡ j → ⊥) → (j < i → ⊥) → i < j
      below i j f s = grind arith

  set_there : (i k : ℕ) → (a : Stands i k) → slice_get sets i ≡ Some a.row.set
  unfolding sets
  set_there i k a = slice_get-map (λ (r : Row). r.set) (of_table t rs) i ∙ ap (option_map (λ (r : Row). r.set)) a.in_table

  in_all : (i k : ℕ) (p : Point) (r : Row) → Stands i k → slice_get (of_table t rs) i ≡ Some r → has_set r.set p → HasAt (has_in t) rs p k
  in_all i k p r a e has =
      let same : r ≡ a.row = same_Some r a.row (sym e ∙ a.in_table) in
      (a.row, a.in_all, (a.of, subst (λ (x : Row). has_set x.set p) same has))

  has_up : (i : ℕ) (p : Point) → HasAt has_set sets p i → (k : ℕ) × Stands i k × HasAt (has_in t) rs p k
  unfolding sets
  has_up i p has =
      let made = made_of (λ (r : Row). r.set) (slice_get (of_table t rs) i) has.0 (sym (slice_get-map (λ (r : Row). r.set) (of_table t rs) i) ∙ has.1) in
      let there = stands_up i made.0 made.1 in
      (made.0.number, there, in_all i made.0.number p made.0 there made.1 (subst (λ (s : CubeSet). has_set s p) (sym made.2) has.2))

  has_down : (k : ℕ) (p : Point) → HasAt (has_in t) rs p k → (i : ℕ) × Stands i k × HasAt has_set sets p i
  has_down k p has =
      let there = down t rs k has.0 has.1 has.2.0 in
      let stands : Stands there.0 k = record { row = has.0; in_table = there.1; in_all = has.1; of = has.2.0 } in
      (there.0, stands, (has.0.set, set_there there.0 k stands, has.2.1))

  -- at a constructor that is known
  at_up : (i k : ℕ) (p : Point) → Stands i k → HasAt has_set sets p i → HasAt (has_in t) rs p k
  at_up i k p a has =
      let there = has_up i p has in
      subst (λ n. HasAt (has_in t) rs p n) (one_up i there.0 k there.1 a) there.2

  at_down : (i k : ℕ) (p : Point) → Stands i k → HasAt (has_in t) rs p k → HasAt has_set sets p i
  at_down i k p a has =
      let there = has_down k p has in
      subst (λ n. HasAt has_set sets p n) (one_down there.0 i k there.1 a) there.2

  -- how two sets lie to one another
  within_up : (r s : Row) → s.table ≡ t → IsWithin has_set r.set s.set → IsWithin (has_in t) r s
  within_up r s of within = λ p range has. (of, within p range has.1)

  within_down : (r s : Row) → r.table ≡ t → IsWithin (has_in t) r s → IsWithin has_set r.set s.set
  within_down r s of within = λ p range has. (within p range (of, has)).1

  below_up : (i j k l : ℕ) → Stands i k → Stands j l → LiesBelow has_set sets i j → LiesBelow (has_in t) rs k l
  below_up i j k l a b below =
      let inner : below.inner ≡ a.row.set = same_Some below.inner a.row.set (sym below.inner_is ∙ set_there i k a) in
      let outer : below.outer ≡ b.row.set = same_Some below.outer b.row.set (sym below.outer_is ∙ set_there j l b) in
      record {
        inner = a.row;
        outer = b.row;
        inner_is = a.in_all;
        outer_is = b.in_all;
        within = within_up a.row b.row b.of (subst (λ (x : CubeSet). IsWithin has_set x b.row.set) inner (subst (λ (y : CubeSet). IsWithin has_set below.inner y) outer below.within));
        not_around = λ back. below.not_around (subst (λ (x : CubeSet). IsWithin has_set below.outer x) (sym inner)
            (subst (λ (y : CubeSet). IsWithin has_set y a.row.set) (sym outer) (within_down b.row a.row b.of back)));
      }

  below_down : (i j k l : ℕ) → Stands i k → Stands j l → LiesBelow (has_in t) rs k l → LiesBelow has_set sets i j
  below_down i j k l a b below =
      let inner : below.inner ≡ a.row = same_Some below.inner a.row (sym below.inner_is ∙ a.in_all) in
      let outer : below.outer ≡ b.row = same_Some below.outer b.row (sym below.outer_is ∙ b.in_all) in
      record {
        inner = a.row.set;
        outer = b.row.set;
        inner_is = set_there i k a;
        outer_is = set_there j l b;
        within = within_down a.row b.row a.of (subst (λ (x : Row). IsWithin (has_in t) x b.row) inner (subst (λ (y : Row). IsWithin (has_in t) below.inner y) outer below.within));
        not_around = λ back. below.not_around (subst (λ (x : Row). IsWithin (has_in t) below.outer x) (sym inner)
            (subst (λ (y : Row). IsWithin (has_in t) y a.row) (sym outer) (within_up b.row a.row a.of back)));
      }

  -- ---- the choice

  choice_up : (i k : ℕ) (p : Point) → Stands i k → IsChoice has_set sets p i → IsChoice (has_in t) rs p k
  choice_up i k p a choice = record {
    has_point = at_up i k p a choice.has_point;
    below = λ l has other.
        let there = has_down l p has in
        below_up i there.0 k l a there.1 (choice.below there.0 there.2 (λ e. other (one_up i l k (subst (λ x. Stands x l) e there.1) a)));
  }

  choice_down : (i k : ℕ) (p : Point) → Stands i k → IsChoice (has_in t) rs p k → IsChoice has_set sets p i
  choice_down i k p a choice = record {
    has_point = at_down i k p a choice.has_point;
    below = λ j has other.
        let there = has_up j p has in
        below_down i j k there.0 a there.1 (choice.below there.0 there.2 (λ e. other (one_down j i k (subst (λ x. Stands j x) e there.1) a)));
  }

  settled_up : IsSettled has_set sets → IsSettled (has_in t) rs
  settled_up settled = λ p range k has.
      let there = has_down k p has in
      let best = settled p range there.0 there.2 in
      let chosen = has_up best.0 p best.1.has_point in
      (chosen.0, choice_up best.0 chosen.0 p chosen.1 best.1)

  settled_down : IsSettled (has_in t) rs → IsSettled has_set sets
  settled_down settled = λ p range i has.
      let there = has_up i p has in
      let best = settled p range there.0 there.2 in
      let chosen = has_down best.0 p best.1.has_point in
      (chosen.0, choice_down chosen.0 best.0 p chosen.1 best.1)

  -- ---- the report

  unsettled_up : (p : Point) → IsUnsettledAt has_set sets p → IsUnsettledAt (has_in t) rs p
  unsettled_up p u =
      let there = has_up u.one p u.one_has in
      record {
        one = there.0;
        one_has = there.2;
        no_choice = λ k choice. let chosen = has_down k p choice.has_point in u.no_choice chosen.0 (choice_down chosen.0 k p chosen.1 choice);
      }

  unsettled_down : (p : Point) → IsUnsettledAt (has_in t) rs p → IsUnsettledAt has_set sets p
  unsettled_down p u =
      let there = has_down u.one p u.one_has in
      record {
        one = there.0;
        one_has = there.2;
        no_choice = λ i choice. let chosen = has_up i p choice.has_point in u.no_choice chosen.0 (choice_up i chosen.0 p chosen.1 choice);
      }

  pair_up : (p : Point) (i j k l : ℕ) → Stands i k → Stands j l → IsPair has_set sets p i j → IsPair (has_in t) rs p k l
  pair_up p i j k l a b pair = record {
    in_order = rises i j k l a b pair.in_order;
    first = at_up i k p a pair.first;
    second = at_up j l p b pair.second;
    not_below = λ below. pair.not_below (below_down i j k l a b below);
    not_above = λ below. pair.not_above (below_down j i l k b a below);
  }

  pair_down : (p : Point) (i j k l : ℕ) → Stands i k → Stands j l → IsPair (has_in t) rs p k l → IsPair has_set sets p i j
  pair_down p i j k l a b pair = record {
    in_order = falls i j k l a b pair.in_order;
    first = at_down i k p a pair.first;
    second = at_down j l p b pair.second;
    not_below = λ below. pair.not_below (below_up i j k l a b below);
    not_above = λ below. pair.not_above (below_up j i l k b a below);
  }

  first_pair_up : (p : Point) (i j k l : ℕ) → Stands i k → Stands j l → IsFirstPair has_set sets p i j → IsFirstPair (has_in t) rs p k l
  first_pair_up p i j k l a b first = record {
    here = pair_up p i j k l a b first.here;
    none_before = λ m n before pair.
        let x = has_down m p pair.first in
        let y = has_down n p pair.second in
        first.none_before x.0 y.0 (elim before [
          | inl less ↦ inl (falls x.0 i m k x.1 a less)
          | inr same ↦ inr (one_down x.0 i k (subst (λ z. Stands x.0 z) same.0 x.1) a, falls y.0 j n l y.1 b same.1)
        ]) (pair_down p x.0 y.0 m n x.1 y.1 pair);
  }

  least_up : (P Q : Point → Type 0) → ((p : Point) → P p → Q p) → ((p : Point) → Q p → P p) → (p : Point) → IsLeastWhere P p → IsLeastWhere Q p
  least_up P Q to back p least = record {
    in_range = least.in_range;
    here = to p least.here;
    least = λ q range holds. least.least q range (back q holds);
  }

  only_up : (r s : Row) → r.table ≡ t → s.table ≡ t → (p : Point) → IsLeastOnlyIn has_set r.set s.set p → IsLeastOnlyIn (has_in t) r s p
  only_up r s of_r of_s p least =
      least_up (λ q. has_set r.set q × (has_set s.set q → ⊥)) (λ q. has_in t r q × (has_in t s q → ⊥))
      (λ q h. ((of_r, h.0), λ x. h.1 x.1)) (λ q h. (h.0.1, λ x. h.1 (of_s, x))) p least

  differ_up : (r s : Row) → r.table ≡ t → s.table ≡ t → (apart : Apart) → DifferAs has_set r.set s.set apart → DifferAs (has_in t) r s apart
  differ_up r s of_r of_s Same h = (within_up r s of_s h.0, within_up s r of_r h.1)
  differ_up r s of_r of_s (Two p q) h = (only_up r s of_r of_s p h.0, only_up s r of_s of_r q h.1)

  pub report_up : (told : Report) (k l : ℕ) → Stands told.first k → Stands told.second l → IsReport has_set sets told
      → IsReport (has_in t) rs (record { both = told.both; first = k; second = l; apart = told.apart })
  report_up told k l a b report = record {
    point = least_up (IsUnsettledAt has_set sets) (IsUnsettledAt (has_in t) rs) unsettled_up unsettled_down told.both report.point;
    pair = first_pair_up told.both told.first told.second k l a b report.pair;
    apart = λ r s r_is s_is.
        let x : a.row ≡ r = same_Some a.row r (sym a.in_all ∙ r_is) in
        let y : b.row ≡ s = same_Some b.row s (sym b.in_all ∙ s_is) in
        subst (λ (z : Row). DifferAs (has_in t) r z told.apart) y (subst (λ (z : Row). DifferAs (has_in t) z b.row told.apart) x
        (differ_up a.row b.row a.of b.of told.apart (report.apart a.row.set b.row.set (set_there told.first k a) (set_there told.second l b))));
  }

  -- ---- for lists that are the table's

  pub spread : (xs : List CubeSet) → xs ≡ map (λ (r : Row). r.set) (of_table t rs) → IsSettled has_set xs → IsSettled (has_in t) rs
  unfolding sets
  spread xs e h = settled_up (subst (λ (l : List CubeSet). IsSettled has_set l) e h)

  pub gathered : (xs : List CubeSet) → xs ≡ map (λ (r : Row). r.set) (of_table t rs) → IsSettled (has_in t) rs → IsSettled has_set xs
  unfolding sets
  gathered xs e h = subst (λ (l : List CubeSet). IsSettled has_set l) (sym e) (settled_down h)

  pub report_spread : (xs : List CubeSet) → xs ≡ map (λ (r : Row). r.set) (of_table t rs) → (told : Report) (k l : ℕ) → Stands told.first k → Stands told.second l
      → IsReport has_set xs told → IsReport (has_in t) rs (record { both = told.both; first = k; second = l; apart = told.apart })
  unfolding sets
  report_spread xs e told k l a b h = report_up told k l a b (subst (λ (s : List CubeSet). IsReport has_set s told) e h)
