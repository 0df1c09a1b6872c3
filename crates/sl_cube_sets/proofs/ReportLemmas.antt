-- The best of those that match is the choice, and how two sets of a pair differ.
use Rattle.std.proofs.Common.{◌≡◌, ℕ, List, length, get_or, Some, sym, ◌∙◌, refl, inl, inr, subst}
use Rattle.std.specs.Prelude.{slice_get}
use Rattle.std.proofs.lemmas.Option.{slice_get_read, slice_get_within}
use Rattle.sl_cube.specs.declared.Point.{Point}
use Rattle.sl_cube_sets.specs.declared.CubeSet.{CubeSet}
use Rattle.sl_cube_sets.specs.declared.report.Apart.{Apart}
use Rattle.sl_cube_sets.specs.Sets.{IsWithin, IsProperlyWithin, HasAt, LiesBelow, IsChoice, IsSettledAt, IsUnsettledAt}
use Rattle.sl_cube_sets.specs.Reports.{DifferAs}
use Rattle.sl_cube_sets.specs.Unions.{has_set, IsBelow}
use Rattle.sl_cube_sets.specs.Settled.{IsBest, Matches, HasBestAt, LacksBestAt}
use Rattle.sl_cube_sets.proofs.LeftLemmas.{some_or_none}

module _ (sets : List CubeSet) (p : Point) where
  best_choice : (i : ℕ) → IsBest (IsBelow sets) (Matches sets p) i → IsChoice has_set sets p i
  best_choice i b = record { has_point = b.there; below = b.below }

  choice_best : (i : ℕ) → IsChoice has_set sets p i → IsBest (IsBelow sets) (Matches sets p) i
  choice_best i c = record { there = c.has_point; below = c.below }

  pub settled_there : HasBestAt sets p → IsSettledAt has_set sets p
  settled_there s = λ j there. let best = s j there in (best.0, best_choice best.0 best.1)

  pub unsettled_there : LacksBestAt sets p → IsUnsettledAt has_set sets p
  unsettled_there u = record { one = u.one; one_has = u.one_there; no_choice = λ i c. u.none_best i (choice_best i c) }

  pub unsettled_back : IsUnsettledAt has_set sets p → LacksBestAt sets p
  unsettled_back u = record { one = u.one; one_there = u.one_has; none_best = λ i b. u.no_choice i (best_choice i b) }

-- what is not false of unions is true
pub within_unless_not : (a b : CubeSet) → ((IsWithin has_set a b → ⊥) → ⊥) → IsWithin has_set a b
within_unless_not a b h = λ p range inside. elim (some_or_none b.cubes.items p) [
  | inl there ↦ there
  | inr out ↦ absurd (h (λ within. out (within p range inside)))
]

pub set_at : (sets : List CubeSet) (p : Point) (i : ℕ) (s : CubeSet) → HasAt has_set sets p i → s ≡ get_or sets i s → slice_get sets i ≡ Some s
set_at sets p i s h is = slice_get_read sets (length sets) i s refl (slice_get_within sets i h.0 h.1) is

pub not_properly : (sets : List CubeSet) (i j : ℕ) (a b : CubeSet) → slice_get sets i ≡ Some a → slice_get sets j ≡ Some b → (LiesBelow has_set sets i j → ⊥)
    → IsProperlyWithin has_set a b → ⊥
not_properly sets i j a b a_is b_is out w = out (record { inner = a; outer = b; inner_is = a_is; outer_is = b_is; within = w.0; not_around = w.1 })

same_some : (a b : CubeSet) → Some a ≡ Some b → a ≡ b
same_some a b e = cc

pub differ_at : (sets : List CubeSet) (i j : ℕ) (a b : CubeSet) (apart : Apart) → slice_get sets i ≡ Some a → slice_get sets j ≡ Some b → DifferAs has_set a b apart
    → (x y : CubeSet) → slice_get sets i ≡ Some x → slice_get sets j ≡ Some y → DifferAs has_set x y apart
differ_at sets i j a b apart a_is b_is h x y x_is y_is =
    subst (λ (v : CubeSet). DifferAs has_set x v apart) (same_some b y (sym b_is ∙ y_is))
    (subst (λ (u : CubeSet). DifferAs has_set u b apart) (same_some a x (sym a_is ∙ x_is)) h)
