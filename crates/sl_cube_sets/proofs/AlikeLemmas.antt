-- What is said of sets of points is said of things that have the same points.
use Rattle.std.proofs.Common.{◌≡◌, ◌↔◌, ℕ, zero, suc, List, [], ◌∷◌, length, Some, refl, subst, arith}
use Rattle.std.specs.Prelude.{slice_get}
use Rattle.std.proofs.lemmas.Option.{same_Some}
use Rattle.sl_cube.specs.Points.{InRange}
use Rattle.sl_cube.specs.declared.Point.{Point}
use Rattle.sl_cube_sets.specs.Reports.{IsLeastOnlyIn, DifferAs, IsReport}
use Rattle.sl_cube_sets.specs.Sets.{IsWithin, HasAt, LiesBelow, IsChoice, IsSettled, IsUnsettledAt, IsPair, IsFirstPair, IsLeastWhere}
use Rattle.sl_cube_sets.specs.declared.report.Apart.{Apart}
use Rattle.sl_cube_sets.specs.declared.report.Apart.TheVariants.{Same, Two}
use Rattle.sl_cube_sets.specs.declared.report.Report.{Report}

-- The two have the same points.
abbrev pub Alike : {X Y : Type 0} → (X → Point → Type 0) → (Y → Point → Type 0) → X → Y → Type 0
Alike f g x y = (p : Point) → InRange p → f x p ↔ g y p

-- The lists have the same sets, one by one.
abbrev pub AreAlike : {X Y : Type 0} → (X → Point → Type 0) → (Y → Point → Type 0) → List X → List Y → Type 0
AreAlike f g [] [] = Unit {0}
AreAlike f g [] (y ∷ ys) = ⊥
AreAlike f g (x ∷ xs) [] = ⊥
AreAlike f g (x ∷ xs) (y ∷ ys) = Alike f g x y × AreAlike f g xs ys

-- the least of the points for which the one holds is the least of those for which the other does
pub least_alike : (P Q : Point → Type 0) → ((p : Point) → InRange p → P p ↔ Q p) → (p : Point) → IsLeastWhere P p → IsLeastWhere Q p
least_alike P Q same p least = record {
  in_range = least.in_range;
  here = (same p least.in_range).0 least.here;
  least = λ q range holds. least.least q range ((same q range).1 holds);
}

-- ---- things and lists of them

module _ {X Y : Type 0} (f : X → Point → Type 0) (g : Y → Point → Type 0) where
  -- lists as long as each other, with things that are alike at each index
  pub alike_each : (xs : List X) (ys : List Y) → length xs ≡ length ys
      → ((i : ℕ) (x : X) (y : Y) → slice_get xs i ≡ Some x → slice_get ys i ≡ Some y → Alike f g x y) → AreAlike f g xs ys
  alike_each [] [] long each = tt
  alike_each [] (y ∷ ys) long each = absurd (omega (arith, long))
  alike_each (x ∷ xs) [] long each = absurd (omega (arith, long))
  alike_each (x ∷ xs) (y ∷ ys) long each = (each 0 x y refl refl, alike_each xs ys (omega (arith, long)) (λ i. each (suc i)))

  pub turned : (x : X) (y : Y) → Alike f g x y → Alike g f y x
  turned x y h = λ p range. ((h p range).1, (h p range).0)

  pub all_turned : (xs : List X) (ys : List Y) → AreAlike f g xs ys → AreAlike g f ys xs
  all_turned [] [] h = tt
  all_turned [] (y ∷ ys) h = h
  all_turned (x ∷ xs) [] h = h
  all_turned (x ∷ xs) (y ∷ ys) h = (turned x y h.0, all_turned xs ys h.1)

  -- the second list has a member where the first has one
  pub alike_at : (xs : List X) (ys : List Y) (i : ℕ) (x : X) → AreAlike f g xs ys → slice_get xs i ≡ Some x → (y : Y) × (slice_get ys i ≡ Some y) × Alike f g x y
  alike_at [] [] i x h e = absurd cc
  alike_at [] (y ∷ ys) i x h e = absurd h
  alike_at (w ∷ xs) [] i x h e = absurd h
  alike_at (w ∷ xs) (y ∷ ys) zero x h e = (y, refl, subst (λ (v : X). Alike f g v y) (same_Some w x e) h.0)
  alike_at (w ∷ xs) (y ∷ ys) (suc i) x h e = alike_at xs ys i x h.1 e

  pub within_alike : (a b : X) (c d : Y) → Alike f g a c → Alike f g b d → IsWithin f a b → IsWithin g c d
  within_alike a b c d h k within = λ p range inside. (k p range).0 (within p range ((h p range).1 inside))

  only_alike : (a b : X) (c d : Y) (p : Point) → Alike f g a c → Alike f g b d → IsLeastOnlyIn f a b p → IsLeastOnlyIn g c d p
  only_alike a b c d p h k = least_alike (λ q. f a q × (f b q → ⊥)) (λ q. g c q × (g d q → ⊥))
      (λ q range. (λ x. ((h q range).0 x.0, λ y. x.1 ((k q range).1 y)), λ x. ((h q range).1 x.0, λ y. x.1 ((k q range).0 y)))) p

  pub differ_alike : (a b : X) (c d : Y) (apart : Apart) → Alike f g a c → Alike f g b d → DifferAs f a b apart → DifferAs g c d apart
  differ_alike a b c d Same h k x = (within_alike a b c d h k x.0, within_alike b a d c k h x.1)
  differ_alike a b c d (Two p q) h k x = (only_alike a b c d p h k x.0, only_alike b a d c q k h x.1)

-- ---- what is said at a point

module _ {X Y : Type 0} (f : X → Point → Type 0) (g : Y → Point → Type 0) (xs : List X) (ys : List Y) (h : AreAlike f g xs ys) where
  pub has_alike : (p : Point) (i : ℕ) → InRange p → HasAt f xs p i → HasAt g ys p i
  has_alike p i range has = let there = alike_at f g xs ys i has.0 h has.1 in (there.0, there.1, (there.2 p range).0 has.2)

  pub below_alike : (i j : ℕ) → LiesBelow f xs i j → LiesBelow g ys i j
  below_alike i j below =
      let a = alike_at f g xs ys i below.inner h below.inner_is in
      let b = alike_at f g xs ys j below.outer h below.outer_is in
      record {
        inner = a.0;
        outer = b.0;
        inner_is = a.1;
        outer_is = b.1;
        within = within_alike f g below.inner below.outer a.0 b.0 a.2 b.2 below.within;
        not_around = λ back. below.not_around (within_alike g f b.0 a.0 below.outer below.inner (turned f g below.outer b.0 b.2) (turned f g below.inner a.0 a.2) back);
      }

module _ {X Y : Type 0} (f : X → Point → Type 0) (g : Y → Point → Type 0) (xs : List X) (ys : List Y) (h : AreAlike f g xs ys) where
  abbrev back : AreAlike g f ys xs
  back = all_turned f g xs ys h

  pub choice_alike : (p : Point) (i : ℕ) → InRange p → IsChoice f xs p i → IsChoice g ys p i
  choice_alike p i range choice = record {
    has_point = has_alike f g xs ys h p i range choice.has_point;
    below = λ j has other. below_alike f g xs ys h i j (choice.below j (has_alike g f ys xs back p j range has) other);
  }

  pub pair_alike : (p : Point) (i j : ℕ) → InRange p → IsPair f xs p i j → IsPair g ys p i j
  pair_alike p i j range pair = record {
    in_order = pair.in_order;
    first = has_alike f g xs ys h p i range pair.first;
    second = has_alike f g xs ys h p j range pair.second;
    not_below = λ below. pair.not_below (below_alike g f ys xs back i j below);
    not_above = λ below. pair.not_above (below_alike g f ys xs back j i below);
  }

module _ {X Y : Type 0} (f : X → Point → Type 0) (g : Y → Point → Type 0) (xs : List X) (ys : List Y) (h : AreAlike f g xs ys) where
  pub unsettled_alike : (p : Point) → InRange p → IsUnsettledAt f xs p → IsUnsettledAt g ys p
  unsettled_alike p range u = record {
    one = u.one;
    one_has = has_alike f g xs ys h p u.one range u.one_has;
    no_choice = λ i choice. u.no_choice i (choice_alike g f ys xs (all_turned f g xs ys h) p i range choice);
  }

  pub first_pair_alike : (p : Point) (i j : ℕ) → InRange p → IsFirstPair f xs p i j → IsFirstPair g ys p i j
  first_pair_alike p i j range first = record {
    here = pair_alike f g xs ys h p i j range first.here;
    none_before = λ k l before pair. first.none_before k l before (pair_alike g f ys xs (all_turned f g xs ys h) p k l range pair);
  }

-- ---- the verdicts

module _ {X Y : Type 0} (f : X → Point → Type 0) (g : Y → Point → Type 0) (xs : List X) (ys : List Y) (h : AreAlike f g xs ys) where
  -- Things that have the same points are settled together.
  pub settled_alike : IsSettled f xs → IsSettled g ys
  settled_alike settled = λ p range j has.
      let best = settled p range j (has_alike g f ys xs (all_turned f g xs ys h) p j range has) in
      (best.0, choice_alike f g xs ys h p best.0 range best.1)

  -- Things that have the same points have the same reports.
  pub report_alike : (told : Report) → IsReport f xs told → IsReport g ys told
  report_alike told report = record {
    point = least_alike (IsUnsettledAt f xs) (IsUnsettledAt g ys)
        (λ p range. (unsettled_alike f g xs ys h p range, unsettled_alike g f ys xs (all_turned f g xs ys h) p range)) told.both report.point;
    pair = first_pair_alike f g xs ys h told.both told.first told.second report.point.in_range report.pair;
    apart = λ c d c_is d_is.
        let back = all_turned f g xs ys h in
        let a = alike_at g f ys xs told.first c back c_is in
        let b = alike_at g f ys xs told.second d back d_is in
        differ_alike f g a.0 b.0 c d told.apart (turned g f c a.0 a.2) (turned g f d b.0 b.2) (report.apart a.0 b.0 a.1 b.1);
  }
