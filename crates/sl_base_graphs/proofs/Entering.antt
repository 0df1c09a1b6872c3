-- A node that wasn't seen is met.
use Rattle.std.proofs.Common.{◌≡◌, ◌≢◌, ℕ, ◌+◌, ◌<◌, ◌≤◌, ◌⊎◌, inl, inr, length, get_or, cond, sym, ap, ◌∙◌, subst, arith, count_by}
use Rattle.std.specs.List.{Contains}
use Rattle.std.proofs.lemmas.Bool.{cases_lt, cases_eq}
use Rattle.std.proofs.lemmas.List.{get_or-set_same, get_or-set_other, length-set, length_push, get_or_past}
use Rattle.std.proofs.lemmas.List.Sums.{sum_by-set}
use Rattle.sl_base_graphs.specs.Reaching.{Graph, successors}
use Rattle.sl_base_graphs.specs.States.{State, entered, is_closed, open_at, place_of}
use Rattle.sl_base_graphs.specs.Searches.{Has, Gets, IsEntry, IsMet, IsSearch, Together}
use Rattle.sl_base_graphs.specs.declared.search.Place.{Place}
use Rattle.sl_base_graphs.specs.declared.search.Place.TheVariants.{Unseen, Open, Closed}
use Rattle.sl_base_graphs.proofs.ListLemmas.{push_old, push_new, old_or_new, has_old, has_new, has_either, rises_more, below_more, below_wider}

no_change : (a b x n : ℕ) → a + x ≡ b + 0 → x ≡ 0 → b ≡ n → a ≡ n
no_change a b x n h e f = omega arith

module _ (graph : Graph) (s : State) (v : ℕ) (is : IsSearch graph s) (entry : IsEntry graph s v) where
  inside : v < length s.places
  inside = elim (cases_lt v (length s.places)) [
    | inl h ↦ h
    | inr h ↦ let e = get_or_past s.places v (Closed 0) h in let u = entry.unseen in absurd (cc)
  ]

  pub here : place_of (entered s v) v ≡ Open (length s.stack)
  here = get_or-set_same s.places v (Open (length s.stack)) (Closed 0) inside

  pub elsewhere : (w : ℕ) → w ≢ v → place_of (entered s v) w ≡ place_of s w
  elsewhere w n = get_or-set_other s.places v w (Open (length s.stack)) (Closed 0) n

  -- a node that was seen is where it was
  stays : (w : ℕ) (p : Place) → place_of s w ≡ p → p ≢ Unseen → place_of (entered s v) w ≡ p
  stays w p at seen = elsewhere w (λ e. seen (sym at ∙ ap (place_of s) e ∙ entry.unseen)) ∙ at

  stays_closed : (w k : ℕ) → place_of s w ≡ Closed k → place_of (entered s v) w ≡ Closed k
  stays_closed w k at = stays w (Closed k) at (λ e. absurd (cc))

  stays_open : (w i : ℕ) → place_of s w ≡ Open i → place_of (entered s v) w ≡ Open i
  stays_open w i at = stays w (Open i) at (λ e. absurd (cc))

  -- what is closed was closed, and what is open was open or is the node
  was_closed : (w k : ℕ) → place_of (entered s v) w ≡ Closed k → place_of s w ≡ Closed k
  was_closed w k at = elim (cases_eq w v) [
    | inl e ↦ let h = here in let f = ap (place_of (entered s v)) e in absurd (cc)
    | inr n ↦ sym (elsewhere w n) ∙ at
  ]

  was_open : (w i : ℕ) → place_of (entered s v) w ≡ Open i → (place_of s w ≡ Open i) ⊎ ((w ≡ v) × (i ≡ length s.stack))
  was_open w i at = elim (cases_eq w v) [
    | inl e ↦ let h = here in let f = ap (place_of (entered s v)) e in inr (e, cc)
    | inr n ↦ inl (sym (elsewhere w n) ∙ at)
  ]

  at_old : (i : ℕ) → i < length s.stack → open_at (entered s v) i ≡ open_at s i
  at_old i below = push_old s.stack v i below

  at_new : (i : ℕ) → i ≡ length s.stack → open_at (entered s v) i ≡ v
  at_new i e = push_new s.stack v i e

  grown : length (entered s v).stack ≡ length s.stack + 1
  grown = length_push s.stack v

  still_met : (i w : ℕ) → i < length s.stack → IsMet s i w → IsMet (entered s v) i w
  still_met i w below (inl h) = inl (h.0, stays_closed w h.0 h.1)
  still_met i w below (inr h) = inr (
    h.0,
    stays_open w h.0 h.1,
    λ b has before. elim (has_either s.starts (length s.stack) b has) [
      | inl old ↦ h.2 b old before
      | inr e ↦ absurd (omega arith)
    ],
  )

  onward_now : (i j : ℕ) → i ≤ j → j < length (entered s v).stack → Gets graph (open_at (entered s v) i) (open_at (entered s v) j)
  onward_now i j le below = elim (old_or_new s.stack v j below) [
    | inl l ↦ subst (λ (x : ℕ). Gets graph x (open_at (entered s v) j)) (sym (at_old i (omega arith))) (subst (λ (y : ℕ). Gets graph (open_at s i) y) (sym (at_old j l)) (is.onward i j le l))
    | inr e ↦ elim (cases_lt i j) [
      | inl less ↦ subst (λ (x : ℕ). Gets graph x (open_at (entered s v) j)) (sym (at_old i (omega arith))) (subst (λ (y : ℕ). Gets graph (open_at s i) y) (sym (at_new j e)) (entry.reached i (omega arith)))
      | inr g ↦ let same : i ≡ j = omega arith in inl (ap (open_at (entered s v)) same)
    ]
  ]

  back_now : (i j : ℕ) → i < j → j < length (entered s v).stack → Together (entered s v) i j → Gets graph (open_at (entered s v) j) (open_at (entered s v) i)
  back_now i j less below together = elim (old_or_new s.stack v j below) [
    | inl l ↦ subst (λ (x : ℕ). Gets graph x (open_at (entered s v) i)) (sym (at_old j l)) (subst (λ (y : ℕ). Gets graph (open_at s j) y) (sym (at_old i (omega arith)))
        (is.back i j less l (λ b has after upto. together b (has_old s.starts (length s.stack) b has) after upto)))
    | inr e ↦ absurd (together (length s.stack) (has_new s.starts (length s.stack)) (omega arith) (omega arith))
  ]

  met_now : (i e : ℕ) → i < length (entered s v).stack → get_or s.left (open_at (entered s v) i) 0 ≤ e → e < length (successors graph (open_at (entered s v) i))
      → IsMet (entered s v) i (get_or (successors graph (open_at (entered s v) i)) e 0)
  met_now i e below left end = elim (old_or_new s.stack v i below) [
    | inl l ↦ subst (λ (x : ℕ). IsMet (entered s v) i (get_or (successors graph x) e 0)) (sym (at_old i l))
        (still_met i (get_or (successors graph (open_at s i)) e 0) l (is.met i e l (subst (λ (x : ℕ). get_or s.left x 0 ≤ e) (at_old i l) left) (subst (λ (x : ℕ). e < length (successors graph x)) (at_old i l) end)))
    | inr q ↦
        let a : get_or s.left v 0 ≤ e = subst (λ (x : ℕ). get_or s.left x 0 ≤ e) (at_new i q) left in
        let b : e < length (successors graph v) = subst (λ (x : ℕ). e < length (successors graph x)) (at_new i q) end in
        let c = is.fresh v entry.unseen in
        absurd (omega arith)
  ]

  fresh_now : (w : ℕ) → place_of (entered s v) w ≡ Unseen → get_or s.left w 0 ≡ length (successors graph w)
  fresh_now w at = elim (cases_eq w v) [
    | inl e ↦ let h = here in let f = ap (place_of (entered s v)) e in absurd (cc)
    | inr n ↦ is.fresh w (sym (elsewhere w n) ∙ at)
  ]

  waits_now : (i : ℕ) → i < length (entered s v).stack → 0 < get_or s.left (open_at (entered s v) i) 0 → Has (entered s v).path i
  waits_now i below some = elim (old_or_new s.stack v i below) [
    | inl l ↦ has_old s.path (length s.stack) i (is.waits i l (subst (λ (x : ℕ). 0 < get_or s.left x 0) (at_old i l) some))
    | inr e ↦ subst (λ (x : ℕ). Has (entered s v).path x) (sym e) (has_new s.path (length s.stack))
  ]

  listed_now : (w k : ℕ) → w < length graph → place_of (entered s v) w ≡ Closed k
      → (k < length s.order) × (get_or s.order k 0 < length graph) × (place_of (entered s v) (get_or s.order k 0) ≡ Closed k)
  listed_now w k node at = let h = is.listed w k node (was_closed w k at) in (h.0, h.1, stays_closed (get_or s.order k 0) k h.2)

  falls_now : (w k : ℕ) → place_of (entered s v) w ≡ Closed k → (x : ℕ) → Contains (successors graph w) x → (j : ℕ) × (j ≤ k) × (place_of (entered s v) x ≡ Closed j)
  falls_now w k at x c = let h = is.falls w k (was_closed w k at) x c in (h.0, h.1, stays_closed x h.0 h.2)

  counted_now : count_by is_closed (entered s v).places ≡ length s.order
  counted_now =
      no_change _ _ _ _ (sum_by-set (λ p. cond (is_closed p) 1 0) s.places v (Open (length s.stack)) (Closed 0) inside)
      (ap (λ p. cond (is_closed p) 1 0) entry.unseen) is.counted

  pub enters : IsSearch graph (entered s v)
  enters = record {
    places = length-set s.places v (Open (length s.stack)) ∙ is.places;
    lefts = is.lefts;
    most = is.most;
    fresh = fresh_now;
    nodes = λ i below. elim (old_or_new s.stack v i below) [
      | inl l ↦ subst (λ (x : ℕ). x < length graph) (sym (at_old i l)) (is.nodes i l)
      | inr e ↦ let h = at_new i e in let n = inside in let p = is.places in omega arith
    ];
    stands = λ i below. elim (old_or_new s.stack v i below) [
      | inl l ↦ ap (place_of (entered s v)) (at_old i l) ∙ stays_open (open_at s i) i (is.stands i l)
      | inr e ↦ ap (place_of (entered s v)) (at_new i e) ∙ here ∙ ap Open (sym e)
    ];
    opened = λ w i at. elim (was_open w i at) [
      | inl h ↦ let o = is.opened w i h in (omega (arith, o.0, grown), at_old i o.0 ∙ o.1)
      | inr h ↦ (omega (arith, grown, h.1), at_new i h.1 ∙ sym h.0)
    ];
    falls = falls_now;
    joined = λ w x k nw nx aw ax. is.joined w x k nw nx (was_closed w k aw) (was_closed x k ax);
    listed = listed_now;
    numbered = λ i below. let h = is.numbered i below in (h.0, (h.1.0, h.1.1, stays_closed (get_or s.order i 0) h.1.0 h.1.2));
    counted = counted_now;
    onward = onward_now;
    back = back_now;
    met = met_now;
    waits = waits_now;
    path_rises = rises_more s.path (length s.stack) is.path_rises is.path_below;
    path_below = below_more s.path (length s.stack) (length (entered s v).stack) (below_wider s.path (length s.stack) (length (entered s v).stack) (omega (arith, grown)) is.path_below) (omega (arith, grown));
    starts_rise = rises_more s.starts (length s.stack) is.starts_rise is.starts_below;
    starts_below = below_more s.starts (length s.stack) (length (entered s v).stack) (below_wider s.starts (length s.stack) (length (entered s v).stack) (omega (arith, grown)) is.starts_below) (omega (arith, grown));
  }
