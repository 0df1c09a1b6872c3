-- Marks of the sets that are the choice at some point.
use Rattle.std.proofs.Common.{◌≡◌, ℕ, zero, suc, ◌+◌, ◌-◌, ◌^◌, ◌<◌, ◌≤◌, IfSome, replicate, List, length, get_or, below_more, Option, Some, None, Bool, true, false, arith, sym, ◌∙◌, ap, inl, inr, subst}
use Rattle.std.specs.Prelude.{slice_get}
use Rattle.std.specs.Int.{bit_at}
use Rattle.std.specs.List.{HoldsAt}
use Rattle.std.proofs.lemmas.Bool.{cases_eq, false≢true}
use Rattle.std.proofs.lemmas.List.{length-replicate}
use Rattle.std.proofs.lemmas.List.Elements.{at_read}
use Rattle.std.proofs.lemmas.Nat.Bits.{bit_at-zero}
use Rattle.std.proofs.lemmas.Option.{same_Some, slice_get_within}
use Rattle.sl_cube.specs.declared.Cube.{Cube}
use Rattle.sl_cube.specs.declared.Point.{Point}
use Rattle.sl_cube.specs.Points.{InRange, IsIn}
use Rattle.sl_cube.specs.Search.{IsHalved, IsNarrower}
use Rattle.sl_cube.proofs.BitLemmas.{clash}
use Rattle.sl_cube_marks.proofs.BestLemmas.{never_both}
use Rattle.sl_cube_marks.specs.Marks.{AreChosen, AreMarked, IsMarked, Keeps, MarksAll}
use Rattle.sl_cube_marks.specs.Rests.{IsThere, IsAbove, IsFilledBy, KeepsChoices, IsConstant, FindsBest, HoldsChoices, AreAllOf}
use Rattle.sl_cube_marks.specs.declared.narrowing.Rest.{Rest}
use Rattle.sl_cube_sets.proofs.WithinLemmas.{below_irrefl}
use Rattle.sl_cube_sets.specs.Settled.{IsBest}
use Rattle.sl_cube_sets.specs.Sets.{IsChoice, IsSettled}
use Rattle.sl_cube_sets.specs.Unions.{IsBelow, has_set}
use Rattle.sl_cube_sets.specs.declared.CubeSet.{CubeSet}

-- ---- each set has its mark

-- The set has its mark, where it has the point.
abbrev pub MarkedIfThere : List Bool → Rest → Type 0
MarkedIfThere marks r = slice_get marks r.set ≡ Some true

pub marked_all : (left : List Rest) (marks : List Bool) (n : ℕ) → length left ≤ n → ((k : ℕ) → k < n → HoldsAt (MarkedIfThere marks) left k) → AreMarked left marks
marked_all left marks n all f = λ p i h.
    let lt : h.0 < n = omega (arith, h.2) in
    let at = subst (MarkedIfThere marks) h.3 (f h.0 lt h.1) in
    subst (λ (x : ℕ). slice_get marks x ≡ Some true) h.4.0 at

pub marked_none : (left : List Rest) (marks : List Bool) → (k : ℕ) → k < 0 → HoldsAt (MarkedIfThere marks) left k
marked_none left marks k below = absurd (omega arith)

pub marked_more : (left : List Rest) (marks : List Bool) (n : ℕ) (r : Rest) → n < length left → r ≡ get_or left n r → slice_get marks r.set ≡ Some true
    → ((k : ℕ) → k < n → HoldsAt (MarkedIfThere marks) left k) → (k : ℕ) → k < n + 1 → HoldsAt (MarkedIfThere marks) left k
marked_more left marks n r below is at f = below_more (λ k. HoldsAt (MarkedIfThere marks) left k) n f (at_read left (MarkedIfThere marks) n r below is at)

-- ---- the choice where the same sets are everywhere

module _ (sets : List CubeSet) (region : Cube) (left : List Rest) (holds : HoldsChoices sets region left) where
  pub all_marked : (marks : List Bool) → AreMarked left marks → MarksAll sets region marks
  all_marked marks all = λ p range inside i choice. all p i (holds.choice p range inside i choice)

  -- the choice is the best of those that are there
  best_of : (p : Point) → InRange p → IsIn p region → (i : ℕ) → IsChoice has_set sets p i → IsBest (IsBelow sets) (IsThere left p) i
  best_of p range inside i choice = record {
    there = holds.choice p range inside i choice;
    below = λ j there other. choice.below j (holds.right p range inside j there) other;
  }

  module _ (settled : IsSettled has_set sets) (p : Point) (range : InRange p) (inside : IsIn p region) (found : Option ℕ) (finds : FindsBest sets left p found)
      (old new : List Bool) (chosen : AreChosen sets old) (marked : IsMarked old found new) where
    found_is : (m : ℕ) → found ≡ Some m → IsChoice has_set sets p m
    found_is m is =
        let there : IsThere left p m = subst (λ (o : Option ℕ). IfSome o (IsThere left p)) is finds.there in
        let one = settled p range m (holds.right p range inside m there) in
        let same : m ≡ one.0 = same_Some m one.0 (sym is ∙ finds.best one.0 (best_of p range inside one.0 one.1)) in
        subst (λ (x : ℕ). IsChoice has_set sets p x) (sym same) one.1

    pub still_chosen : AreChosen sets new
    still_chosen = record {
      counted = marked.counted ∙ chosen.counted;
      chosen = λ i e. elim (marked.only i e) [
        | inl before ↦ chosen.chosen i before
        | inr is ↦ (p, range, found_is i is)
      ];
    }

    -- so it is at each point of the region
    one_choice : IsConstant region left → (q : Point) → InRange q → IsIn q region → (i j : ℕ) → IsChoice has_set sets q i → IsChoice has_set sets p j → i ≡ j
    one_choice constant q range_q inside_q i j at_q at_p = elim (cases_eq i j) [
      | inl same ↦ same
      | inr other ↦
          let i_there = constant q p inside_q inside i (holds.choice q range_q inside_q i at_q) in
          let j_there = constant p q inside inside_q j (holds.choice p range inside j at_p) in
          absurd (never_both sets i j (at_q.below j (holds.right q range_q inside_q j j_there) (λ e. other (sym e)))
          (at_p.below i (holds.right p range inside i i_there) other))
    ]

    pub marks_best : IsConstant region left → MarksAll sets region new
    marks_best constant = λ q range_q inside_q i at_q.
        let i_there = constant q p inside_q inside i (holds.choice q range_q inside_q i at_q) in
        let matches = holds.right p range inside i i_there in
        let one = settled p range i matches in
        let same : i ≡ one.0 = one_choice constant q range_q inside_q i one.0 at_q one.1 in
        let is : found ≡ Some i = finds.best one.0 (best_of p range inside one.0 one.1) ∙ ap Some (sym same) in
        let within : i < length sets = slice_get_within sets i matches.0 matches.1 in
        marked.marked i is (omega (arith, within, chosen.counted))

-- ---- halves of a region

-- the search goes down by the bits that the region leaves open
pub falls_to : (region part : Cube) → IsNarrower region part → region.mask < 2 ^ 128 → region.ctx_mask < 2 ^ 64
    → 2 ^ 128 - part.mask + (2 ^ 64 - part.ctx_mask) < 2 ^ 128 - region.mask + (2 ^ 64 - region.ctx_mask)
falls_to region part (no_wider, inl lt) fits ctx_fits = omega (arith, no_wider.0, no_wider.1, lt, fits, ctx_fits)
falls_to region part (no_wider, inr lt) fits ctx_fits = omega (arith, no_wider.0, no_wider.1, lt, fits, ctx_fits)

not_above : (sets : List CubeSet) (region : Cube) (left : List Rest) (p : Point) (i : ℕ) → HoldsChoices sets region left → InRange p → IsIn p region
    → IsChoice has_set sets p i → (filled : Option ℕ) → IsFilledBy region left filled → IsAbove sets filled i → ⊥
not_above sets region left p i holds range inside choice None fills above = above
not_above sets region left p i holds range inside choice (Some m) fills above = elim (cases_eq m i) [
  | inl same ↦ below_irrefl sets i (subst (λ (x : ℕ). IsBelow sets x i) same above)
  | inr other ↦ never_both sets i m (choice.below m (holds.right p range inside m (fills p range inside)) other) above
]

pub holds_half : (sets : List CubeSet) (region half : Cube) (left kept : List Rest) (filled : Option ℕ) → ((p : Point) → IsIn p half → IsIn p region)
    → IsFilledBy region left filled → KeepsChoices sets half filled left kept → HoldsChoices sets region left → HoldsChoices sets half kept
holds_half sets region half left kept filled within fills k holds = record {
  right = λ p range inside i there. holds.right p range (within p inside) i (k.among p range inside i there);
  choice = λ p range inside i choice. elim (k.leaves p range inside i (holds.choice p range (within p inside) i choice)) [
    | inl there ↦ there
    | inr above ↦ absurd (not_above sets region left p i holds range (within p inside) choice filled fills above)
  ];
}

pub marks_halves : (sets : List CubeSet) (region low high : Cube) (between new : List Bool) → IsHalved region low high → MarksAll sets low between → Keeps between new
    → MarksAll sets high new → MarksAll sets region new
marks_halves sets region low high between new h in_low keeps in_high = λ p range inside i choice. elim (h.whole p inside) [
  | inl there ↦ keeps i (in_low p range there i choice)
  | inr there ↦ in_high p range there i choice
]

-- ---- the whole

none_marked : (n i : ℕ) → slice_get (replicate n false) i ≡ Some true → ⊥
none_marked zero i e = absurd (cc)
none_marked (suc n) zero e = false≢true (same_Some false true e)
none_marked (suc n) (suc i) e = none_marked n i e

pub none_chosen : (sets : List CubeSet) (marks : List Bool) → marks ≡ replicate (length sets) false → AreChosen sets marks
none_chosen sets marks is = record {
  counted = ap length is ∙ length-replicate (length sets) false;
  chosen = λ i e. absurd (none_marked (length sets) i (ap (λ (l : List Bool). slice_get l i) (sym is) ∙ e));
}

in_whole : (c : Cube) (p : Point) → c.mask ≡ 0 → c.ctx_mask ≡ 0 → IsIn p c
in_whole c p m cm = (
  λ i on. absurd (clash (bit_at c.mask i) (ap (λ x. bit_at x i) m ∙ bit_at-zero i) on),
  λ i on. absurd (clash (bit_at c.ctx_mask i) (ap (λ x. bit_at x i) cm ∙ bit_at-zero i) on),
)

pub holds_all : (sets : List CubeSet) (region : Cube) (left : List Rest) → AreAllOf sets region left → HoldsChoices sets region left
holds_all sets region left all = record {
  right = λ p range inside i. (all p range inside i).0;
  choice = λ p range inside i choice. (all p range inside i).1 choice.has_point;
}

pub marks_whole : (sets : List CubeSet) (whole : Cube) (marks : List Bool) → whole.mask ≡ 0 → whole.ctx_mask ≡ 0 → MarksAll sets whole marks
    → (p : Point) → InRange p → (i : ℕ) → IsChoice has_set sets p i → slice_get marks i ≡ Some true
marks_whole sets whole marks m cm all p range i choice = all p range (in_whole whole p m cm) i choice
