-- A point that is not settled has a pair: sets that are all in order have a lowest.
use Rattle.std.proofs.Common.{◌≡◌, ◌≢◌, ℕ, ◌+◌, ◌<◌, ◌≤◌, ◌⊎◌, suc, zero, List, length, Some, None, arith, sym, ◌∙◌, inl, inr, subst}
use Rattle.std.proofs.lemmas.Bool.{cases_lt, cases_eq}
use Rattle.std.proofs.lemmas.Option.{slice_get_within}
use Rattle.sl_cube.specs.declared.Point.{Point}
use Rattle.sl_cube_sets.specs.declared.CubeSet.{CubeSet}
use Rattle.sl_cube_sets.specs.Sets.{HasAt, IsPair, IsUnsettledAt, LiesBelow}
use Rattle.sl_cube_sets.specs.Settled.{IsPairAfter}
use Rattle.sl_cube_sets.specs.Unions.{has_set}
use Rattle.sl_cube_sets.proofs.WithinLemmas.{lies_trans}

-- whether something holds may be asked where nothing is to be had but a contradiction
either : (A : Type 0) → (A ⊎ (A → ⊥) → ⊥) → ⊥
either A k = k (inr (λ a. k (inl a)))

module _ {X : Type 0} (has : X → Point → Type 0) (xs : List X) (p : Point) (none : (i j : ℕ) → IsPair has xs p i j → ⊥) where
  -- the set has the point, and lies below each other of the first n that has it
  record Lowest (n b : ℕ) : Type 0 where
    there : HasAt has xs p b
    below : (j : ℕ) → j < n → HasAt has xs p j → j ≢ b → LiesBelow has xs b j

  not_apart : (i j : ℕ) → i ≢ j → HasAt has xs p i → HasAt has xs p j → (LiesBelow has xs i j → ⊥) → (LiesBelow has xs j i → ⊥) → ⊥
  not_apart i j ne in_i in_j out back = elim (cases_lt i j) [
    | inl before ↦ none i j (record { in_order = before; first = in_i; second = in_j; not_below = out; not_above = back })
    | inr after ↦ none j i (record { in_order = omega arith; first = in_j; second = in_i; not_below = back; not_above = out })
  ]

  grown : (n b : ℕ) → Lowest n b → (n ≡ b) ⊎ ((HasAt has xs p n → ⊥) ⊎ LiesBelow has xs b n) → Lowest (n + 1) b
  grown n b l how = record {
    there = l.there;
    below = λ j lt there ne. elim (cases_lt j n) [
      | inl before ↦ l.below j before there ne
      | inr after ↦
          let same : n ≡ j = omega (arith, lt) in
          elim how [
            | inl e ↦ absurd (ne (sym same ∙ e))
            | inr more ↦ elim more [
              | inl out ↦ absurd (out (subst (λ (x : ℕ). HasAt has xs p x) (sym same) there))
              | inr under ↦ subst (λ (x : ℕ). LiesBelow has xs b x) same under
            ]
          ]
    ];
  }

  changed : (n b : ℕ) → Lowest n b → HasAt has xs p n → LiesBelow has xs n b → Lowest (n + 1) n
  changed n b l there under = record {
    there = there;
    below = λ j lt in_j ne. elim (cases_lt j n) [
      | inl before ↦ elim (cases_eq j b) [
        | inl e ↦ subst (λ (x : ℕ). LiesBelow has xs n x) (sym e) under
        | inr other ↦ lies_trans has xs n b j under (l.below j before in_j other)
      ]
      | inr after ↦ absurd (ne (omega (arith, lt)))
    ];
  }

  step : (n b : ℕ) → Lowest n b → ((c : ℕ) → Lowest (n + 1) c → ⊥) → ⊥
  step n b l k = elim (cases_eq n b) [
    | inl e ↦ k b (grown n b l (inl e))
    | inr ne ↦ either (HasAt has xs p n) (λ m. elim m [
      | inr out ↦ k b (grown n b l (inr (inl out)))
      | inl there ↦ either (LiesBelow has xs b n) (λ u. elim u [
        | inl under ↦ k b (grown n b l (inr (inr under)))
        | inr not_under ↦ either (LiesBelow has xs n b) (λ v. elim v [
          | inl over ↦ k n (changed n b l there over)
          | inr not_over ↦ not_apart n b ne there l.there not_over not_under
        ])
      ])
    ])
  ]

  lowest_of : (n b : ℕ) → HasAt has xs p b → ((c : ℕ) → Lowest n c → ⊥) → ⊥
  lowest_of zero b there k = k b (record { there = there; below = λ j lt. absurd (omega (arith, lt)) })
  lowest_of (suc n) b there k = lowest_of n b there (λ c l. step n c l (λ d m.
      let e : n + 1 ≡ suc n = omega arith in
      k d (subst (λ (x : ℕ). Lowest x d) e m)))

  pub settled_without_pair : IsUnsettledAt has xs p → ⊥
  settled_without_pair u = lowest_of (length xs) u.one u.one_has (λ b l. u.no_choice b (record {
    has_point = l.there;
    below = λ j there ne. l.below j (slice_get_within xs j there.0 there.1) there ne;
  }))

-- ---- the loops

pub after_more : (sets : List CubeSet) (p : Point) (i n : ℕ) → ((l : ℕ) → l < n → IsPair has_set sets p i l → ⊥) → (IsPair has_set sets p i n → ⊥) → (l : ℕ) → l < n + 1 → IsPair has_set sets p i l → ⊥
after_more sets p i n before here l lt pair = elim (cases_lt l n) [
  | inl less ↦ before l less pair
  | inr more ↦ let same : l ≡ n = omega (arith, lt) in here (subst (λ (x : ℕ). IsPair has_set sets p i x) same pair)
]

pub after_all : (sets : List CubeSet) (p : Point) (i n : ℕ) → length sets ≤ n → ((l : ℕ) → l < n → IsPair has_set sets p i l → ⊥) → IsPairAfter sets p i None
after_all sets p i n all before j pair =
    let within : j < length sets = slice_get_within sets j pair.second.0 pair.second.1 in
    before j (omega (arith, within)) pair

pub pairs_more : (sets : List CubeSet) (p : Point) (n : ℕ) → ((k l : ℕ) → k < n → IsPair has_set sets p k l → ⊥) → IsPairAfter sets p n None → (k l : ℕ) → k < n + 1 → IsPair has_set sets p k l → ⊥
pairs_more sets p n before here k l lt pair = elim (cases_lt k n) [
  | inl less ↦ before k l less pair
  | inr more ↦ let same : k ≡ n = omega (arith, lt) in here l (subst (λ (x : ℕ). IsPair has_set sets p x l) same pair)
]

pub pairs_all : (sets : List CubeSet) (p : Point) (n : ℕ) → length sets ≤ n → ((k l : ℕ) → k < n → IsPair has_set sets p k l → ⊥) → (i j : ℕ) → IsPair has_set sets p i j → ⊥
pairs_all sets p n all before i j pair =
    let within : i < length sets = slice_get_within sets i pair.first.0 pair.first.1 in
    before i j (omega (arith, within)) pair

pub pairs_first : (sets : List CubeSet) (p : Point) (i j : ℕ) → ((k l : ℕ) → k < i → IsPair has_set sets p k l → ⊥) → IsPairAfter sets p i (Some j)
    → IsPair has_set sets p i j × ((k l : ℕ) → (k < i) ⊎ ((k ≡ i) × (l < j)) → IsPair has_set sets p k l → ⊥)
pairs_first sets p i j before here = (
  here.0,
  λ k l where_is pair. elim where_is [
    | inl less ↦ before k l less pair
    | inr same ↦ here.1 l same.1 (subst (λ (x : ℕ). IsPair has_set sets p x l) same.0 pair)
  ],
)
