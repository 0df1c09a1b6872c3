-- It can't be that sets are neither settled nor have a report.
use Rattle.std.proofs.Common.{◌≡◌, ℕ, ◌<◌, ◌≤◌, ◌^◌, ◌⊎◌, List, Some, sym, ◌∙◌, subst, inl, inr, arith}
use Rattle.std.specs.Prelude.{slice_get}
use Rattle.std.proofs.lemmas.Bool.{cases_order}
use Rattle.std.proofs.lemmas.Option.{same_Some}
use Rattle.sl_cube.specs.Points.{InRange, NotAfter}
use Rattle.sl_cube.specs.declared.Point.{Point}
use Rattle.sl_cube_sets.specs.Reports.{IsLeastOnlyIn, DifferAs, IsReport}
use Rattle.sl_cube_sets.specs.Sets.{IsWithin, IsSettled, IsSettledAt, IsUnsettledAt, IsChoice, IsPair, IsFirstPair, IsLeastWhere}
use Rattle.sl_cube_sets.specs.declared.report.Apart.{Apart}
use Rattle.sl_cube_sets.specs.declared.report.Apart.TheVariants.{Same, Two}
use Rattle.sl_cube_sets.specs.declared.report.Report.{Report}
use Rattle.sl_cube_sets.proofs.PairLemmas.{settled_without_pair}
use Rattle.sl_base_surely.specs.Surely.{Surely}
use Rattle.sl_base_surely.proofs.SurelyLemmas.{IsLeastNumber, surely, surely_then, surely_map, surely_either, surely_function, surely_least, surely_each}

-- ---- points

abbrev point : ℕ → ℕ → Point
point bytes context = record { bytes = bytes; context = context }

-- the least bytes, and with them the least context
not_after : (holds : Point → Type 0) (bytes context : ℕ)
    → IsLeastNumber (λ b. (c : ℕ) × InRange (point b c) × holds (point b c)) bytes
    → IsLeastNumber (λ c. InRange (point bytes c) × holds (point bytes c)) context
    → (q : Point) → InRange q → holds q → NotAfter (point bytes context) q
not_after holds bytes context first second q range h = elim (cases_order bytes q.bytes) [
  | inr other ↦ elim other [
    | inl more ↦ inl more
    | inr less ↦ absurd (first.none_below q.bytes less (q.context, range, h))
  ]
  | inl same ↦ inr (same, above same)
]
  where
    here : bytes ≡ q.bytes → q.context < context → ⊥
    here same below = second.none_below q.context below (subst (λ (b : ℕ). InRange (point b q.context) × holds (point b q.context)) (sym same) (range, h))

    above : bytes ≡ q.bytes → context ≤ q.context
    above same = elim (cases_order context q.context) [
      | inl even ↦ omega (arith, even)
      | inr other ↦ elim other [
        | inl more ↦ omega (arith, more)
        | inr below ↦ absurd (here same below)
      ]
    ]

pub some_least_point : (holds : Point → Type 0) (p : Point) → InRange p → holds p → Surely ((q : Point) × IsLeastWhere holds q)
some_least_point holds p range h =
    surely_then (surely_least (λ b. (c : ℕ) × InRange (point b c) × holds (point b c)) p.bytes (p.context, range, h)) (λ first.
    surely_map (λ second. (
      point first.0 second.0,
      record {
        in_range = second.1.here.0;
        here = second.1.here.1;
        least = not_after holds first.0 second.0 first.1 second.1;
      },
    )) (surely_least (λ c. InRange (point first.0 c) × holds (point first.0 c)) first.1.here.0 (first.1.here.1, first.1.here.2)))

-- what is surely so at each point in range is surely so at all of them
pub surely_at_all : (P : Point → Type 0) → ((p : Point) → InRange p → Surely (P p)) → Surely ((p : Point) → InRange p → P p)
surely_at_all P each =
    surely_map (λ all. λ p range. all p.bytes range.0 p.context range.1)
    (surely_each (λ b. (c : ℕ) → c < 2 ^ 64 → P (point b c)) (2 ^ 128) (λ b below_b.
    surely_each (λ c. P (point b c)) (2 ^ 64) (λ c below_c. each (point b c) (below_b, below_c))))

module _ {X : Type 0} (has : X → Point → Type 0) (xs : List X) where
  -- ---- the first pair

  -- a pair before no other
  first_of_least : (p : Point) (i j : ℕ) → IsLeastNumber (λ k. (l : ℕ) × IsPair has xs p k l) i → IsLeastNumber (λ l. IsPair has xs p i l) j → IsFirstPair has xs p i j
  first_of_least p i j first second = record {
    here = second.here;
    none_before = λ k l before pair. elim before [
      | inl less ↦ first.none_below k less (l, pair)
      | inr same ↦ second.none_below l same.1 (subst (λ (m : ℕ). IsPair has xs p m l) same.0 pair)
    ];
  }

  some_first_pair : (p : Point) → IsUnsettledAt has xs p → Surely ((i j : ℕ) × IsFirstPair has xs p i j)
  some_first_pair p u = surely_then (surely_either ((i j : ℕ) × IsPair has xs p i j)) (λ found. elim found [
    | inr none ↦ absurd (settled_without_pair has xs p (λ i j pair. none (i, j, pair)) u)
    | inl some ↦
        surely_then (surely_least (λ k. (l : ℕ) × IsPair has xs p k l) some.0 (some.1, some.2)) (λ first.
        surely_map (λ second. (first.0, second.0, first_of_least p first.0 second.0 first.1 second.1))
        (surely_least (λ l. IsPair has xs p first.0 l) first.1.here.0 first.1.here.1))
  ])

  -- ---- how the two differ

  -- the first has a point of its own, or it is within the second
  some_outside : (a b : X) → Surely (((p : Point) × IsLeastOnlyIn has a b p) ⊎ IsWithin has a b)
  some_outside a b = surely_then (surely_either ((p : Point) × InRange p × (has a p × (has b p → ⊥)))) (λ found. elim found [
    | inl out ↦ surely_map (λ least. inl least) (some_least_point (λ q. has a q × (has b q → ⊥)) out.0 out.1 out.2)
    | inr none ↦ surely_map (λ within. inr within) (surely_at_all (λ p. has a p → has b p) (λ p range.
        surely_function (λ inside. λ not_in. none (p, range, (inside, not_in)))))
  ])

  some_apart : (a b : X) → (IsWithin has a b × (IsWithin has b a → ⊥) → ⊥) → (IsWithin has b a × (IsWithin has a b → ⊥) → ⊥) → Surely ((apart : Apart) × DifferAs has a b apart)
  some_apart a b not_below not_above = surely_then (some_outside a b) (λ first. surely_then (some_outside b a) (λ second. elim first [
    | inl p ↦ elim second [
      | inl q ↦ surely (Two p.0 q.0, (p.1, q.1))
      | inr back ↦ absurd (not_above (back, λ within. p.1.here.1 (within p.0 p.1.in_range p.1.here.0)))
    ]
    | inr within ↦ elim second [
      | inl q ↦ absurd (not_below (within, λ back. q.1.here.1 (back q.0 q.1.in_range q.1.here.0)))
      | inr back ↦ surely (Same, (within, back))
    ]
  ]))

  abbrev DifferThere : ℕ → ℕ → Apart → Type 0
  DifferThere i j apart = (a b : X) → slice_get xs i ≡ Some a → slice_get xs j ≡ Some b → DifferAs has a b apart

  some_apart_there : (p : Point) (i j : ℕ) → IsPair has xs p i j → Surely ((apart : Apart) × DifferThere i j apart)
  some_apart_there p i j pair =
      let x = pair.first in
      let y = pair.second in
      surely_map (λ differ. (
        differ.0,
        λ a b a_is b_is. subst (λ (v : X). DifferAs has a v differ.0) (same_Some y.0 b (sym y.1 ∙ b_is))
            (subst (λ (u : X). DifferAs has u y.0 differ.0) (same_Some x.0 a (sym x.1 ∙ a_is)) differ.1),
      )) (some_apart x.0 y.0
      (λ below. pair.not_below (record { inner = x.0; outer = y.0; inner_is = x.1; outer_is = y.1; within = below.0; not_around = below.1 }))
      (λ above. pair.not_above (record { inner = y.0; outer = x.0; inner_is = y.1; outer_is = x.1; within = above.0; not_around = above.1 })))

  -- ---- the report

  report_at : (p : Point) → IsLeastWhere (IsUnsettledAt has xs) p → Surely ((told : Report) × IsReport has xs told)
  report_at p least =
      surely_then (some_first_pair p least.here) (λ pair.
      surely_map (λ apart. (
        record { both = p; first = pair.0; second = pair.1; apart = apart.0 },
        record { point = least; pair = pair.2; apart = apart.1 },
      )) (some_apart_there p pair.0 pair.1 pair.2.here))

  settled_unless : (p : Point) → (IsUnsettledAt has xs p → ⊥) → Surely (IsSettledAt has xs p)
  settled_unless p not = surely_map (λ choice. elim choice [
    | inl some ↦ λ j there. some
    | inr none ↦ λ j there. absurd (not (record { one = j; one_has = there; no_choice = λ i choice. none (i, choice) }))
  ]) (surely_either ((i : ℕ) × IsChoice has xs p i))

  -- Sets are settled or have a report.
  pub some_report : Surely (IsSettled has xs ⊎ ((told : Report) × IsReport has xs told))
  some_report = surely_then (surely_either ((p : Point) × InRange p × IsUnsettledAt has xs p)) (λ found. elim found [
    | inl there ↦
        surely_then (some_least_point (IsUnsettledAt has xs) there.0 there.1 there.2) (λ least.
        surely_map (λ report. inr report) (report_at least.0 least.1))
    | inr none ↦ surely_map (λ settled. inl settled) (surely_at_all (IsSettledAt has xs) (λ p range.
        settled_unless p (λ u. none (p, range, u))))
  ])
