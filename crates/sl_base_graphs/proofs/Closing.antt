-- The last group is closed.
use Rattle.std.proofs.Common.{◌≡◌, ◌≢◌, ℕ, zero, suc, ◌+◌, ◌-◌, ◌<◌, ◌≤◌, ◌⊎◌, inl, inr, List, [], ◌∷◌, ◌++◌, length, get_or, set, take, drop, map, cond, refl, sym, ap, ◌∙◌, subst, arith, count_by}
use Rattle.std.specs.List.{Contains}
use Rattle.std.proofs.lemmas.Bool.{cases_lt, cases_eq}
use Rattle.std.proofs.lemmas.Bool.Decides.{nat_tests}
use Rattle.std.proofs.lemmas.List.{get_or-set_same, get_or-set_other, length-set, length-take, length-drop, length-append, length-map, get_or-take, get_or-drop, get_or_append_left, get_or-append_right, take_more, append_assoc, append-nil, ext_get_or, get_or_past}
use Rattle.std.proofs.lemmas.List.Sums.{sum_by-set}
use Rattle.sl_base_graphs.specs.Reaching.{Graph, successors}
use Rattle.sl_base_graphs.specs.States.{State, closed, closed_to, closing, shut_at, last_of, is_closed, open_at, place_of}
use Rattle.sl_base_graphs.specs.Searches.{Has, Gets, IsMet, IsSearch, IsStack, Together}
use Rattle.sl_base_graphs.specs.declared.search.Place.{Place}
use Rattle.sl_base_graphs.specs.declared.search.Place.TheVariants.{Unseen, Open, Closed}
use Rattle.sl_base_graphs.proofs.Seen.{at_map}
use Rattle.sl_base_graphs.proofs.ListLemmas.{contained, fewer, has_to_last, rises_take, take_has, below_last, not_last, all_below_last}

-- ---- places that close

pub closing-low : (start end number i : ℕ) → i < start → closing start end number (Open i) ≡ Open i
closing-low start end number i low = grind (arith, nat_tests)

pub closing-past : (start end number i : ℕ) → end ≤ i → closing start end number (Open i) ≡ Open i
closing-past start end number i past = grind (arith, nat_tests)

pub closing-in : (start end number i : ℕ) → start ≤ i → i < end → closing start end number (Open i) ≡ Closed number
closing-in start end number i low high = grind (arith, nat_tests)

closed_from : (start end number k : ℕ) (p : Place) → closing start end number p ≡ Closed k → (p ≡ Closed k) ⊎ ((i : ℕ) × (p ≡ Open i) × (start ≤ i) × (k ≡ number))
closed_from start end number k Unseen h = absurd (cc)
closed_from start end number k (Closed j) h = inl h
closed_from start end number k (Open i) h = elim (cases_lt i start) [
  | inl low ↦ let e = closing-low start end number i low in absurd (cc)
  | inr high ↦ elim (cases_lt i end) [
    | inl in' ↦ let e = closing-in start end number i high in' in inr (i, refl, high, cc)
    | inr past ↦ let e = closing-past start end number i past in absurd (cc)
  ]
]

open_from : (start end number k : ℕ) (p : Place) → closing start end number p ≡ Open k → (p ≡ Open k) × ((k < start) ⊎ (end ≤ k))
open_from start end number k Unseen h = absurd (cc)
open_from start end number k (Closed j) h = absurd (cc)
open_from start end number k (Open i) h = elim (cases_lt i start) [
  | inl low ↦ let e = closing-low start end number i low in let q : Open i ≡ Open k = cc in let same : i ≡ k = cc in (q, inl (omega arith))
  | inr high ↦ elim (cases_lt i end) [
    | inl in' ↦ let e = closing-in start end number i high in' in absurd (cc)
    | inr past ↦ let e = closing-past start end number i past in let q : Open i ≡ Open k = cc in let same : i ≡ k = cc in (q, inr (omega arith))
  ]
]

unseen_from : (start end number : ℕ) (p : Place) → closing start end number p ≡ Unseen → p ≡ Unseen
unseen_from start end number Unseen h = refl
unseen_from start end number (Closed j) h = absurd (cc)
unseen_from start end number (Open i) h = elim (cases_lt i start) [
  | inl low ↦ let e = closing-low start end number i low in absurd (cc)
  | inr high ↦ elim (cases_lt i end) [
    | inl in' ↦ let e = closing-in start end number i high in' in absurd (cc)
    | inr past ↦ let e = closing-past start end number i past in absurd (cc)
  ]
]

nothing_closes : (start number : ℕ) (p : Place) → closing start start number p ≡ p
nothing_closes start number Unseen = refl
nothing_closes start number (Closed j) = refl
nothing_closes start number (Open i) = elim (cases_lt i start) [ inl low ↦ closing-low start start number i low | inr past ↦ closing-past start start number i past ]

-- one more closes
one_more : (start end number : ℕ) (p : Place) → p ≢ Open end → closing start end number p ≡ closing start (end + 1) number p
one_more start end number Unseen n = refl
one_more start end number (Closed j) n = refl
one_more start end number (Open i) n = elim (cases_lt i start) [
  | inl low ↦ closing-low start end number i low ∙ sym (closing-low start (end + 1) number i low)
  | inr high ↦ elim (cases_lt i end) [
    | inl in' ↦ closing-in start end number i high in' ∙ sym (closing-in start (end + 1) number i high (omega arith))
    | inr past ↦ elim (cases_eq i end) [
      | inl e ↦ absurd (n (ap Open e))
      | inr ne ↦ closing-past start end number i past ∙ sym (closing-past start (end + 1) number i (elim (cases_lt end i) [ inl h ↦ omega arith | inr h ↦ absurd (ne (omega arith)) ]))
    ]
  ]
]

same_map : {A : Type 0} (f : A → A) (xs : List A) → ((x : A) → f x ≡ x) → map f xs ≡ xs
same_map f [] same = refl
same_map {A} f (x ∷ xs) same = ap (λ (y : A). y ∷ map f xs) (same x) ∙ ap (λ (ys : List A). x ∷ ys) (same_map f xs same)

counts_on : (a b x n d : ℕ) → a + x ≡ b + 1 → x ≡ 0 → b ≡ n + d → a ≡ n + (d + 1)
counts_on a b x n d h e f = omega arith

-- ---- one node after another

module _ (s : State) (is : IsStack s) (start number : ℕ) where
  shut_goes : (p : ℕ) → p < length s.stack → start ≤ p
      → set (map (closing start p number) s.places) (open_at s p) (Closed number) ≡ map (closing start (p + 1) number) s.places
  shut_goes p below from =
      ext_get_or (Closed 0) _ _ (length-set (map (closing start p number) s.places) (open_at s p) (Closed number) ∙ length-map s.places (closing start p number) ∙ sym (length-map s.places (closing start (p + 1) number)))
      (λ w inside. elim (cases_eq w (open_at s p)) [
        | inl e ↦
            ap (λ x. get_or (set (map (closing start p number) s.places) (open_at s p) (Closed number)) x (Closed 0)) e
            ∙ get_or-set_same (map (closing start p number) s.places) (open_at s p) (Closed number) (Closed 0) (omega (arith, length-map s.places (closing start p number), is.nodes p below))
            ∙ sym (closing-in start (p + 1) number p from (omega arith)) ∙ ap (closing start (p + 1) number) (sym (is.stands p below))
            ∙ sym (at_map (closing start (p + 1) number) s.places (open_at s p) (Closed 0)) ∙ ap (λ x. get_or (map (closing start (p + 1) number) s.places) x (Closed 0)) (sym e)
        | inr n ↦
            get_or-set_other (map (closing start p number) s.places) (open_at s p) w (Closed number) (Closed 0) n
            ∙ at_map (closing start p number) s.places w (Closed 0)
            ∙ one_more start p number (place_of s w) (λ q. n (sym (is.opened w p q).1))
            ∙ sym (at_map (closing start (p + 1) number) s.places w (Closed 0))
      ])

  counted_to : (d : ℕ) → start + d ≤ length s.stack → count_by is_closed s.places ≡ number → count_by is_closed (map (closing start (start + d) number) s.places) ≡ number + d
  counted_to zero le at =
      ap (count_by is_closed) (ap (λ e. map (closing start e number) s.places) (omega arith) ∙ same_map (closing start start number) s.places (nothing_closes start number)) ∙ at ∙ omega arith
  counted_to (suc d) le at =
      let p = start + d in
      let below : p < length s.stack = omega arith in
      let was : place_of s (open_at s p) ≡ Open p = is.stands p below in
      let now : get_or (map (closing start p number) s.places) (open_at s p) (Closed 0) ≡ Open p =
      at_map (closing start p number) s.places (open_at s p) (Closed 0) ∙ ap (closing start p number) was ∙ closing-past start p number p (omega arith) in
      ap (count_by is_closed) (ap (λ e. map (closing start e number) s.places) (omega arith) ∙ sym (shut_goes p below (omega arith)))
      ∙ counts_on _ _ _ number d
      (sum_by-set (λ q. cond (is_closed q) 1 0) (map (closing start p number) s.places) (open_at s p) (Closed number) (Closed 0) (omega (arith, length-map s.places (closing start p number), is.nodes p below)))
      (ap (λ q. cond (is_closed q) 1 0) now) (counted_to d (omega arith) at)
      ∙ omega arith

-- ---- the group

module _ (graph : Graph) (s : State) (is : IsSearch graph s) (some : 0 < length s.stack)
    (idle : 0 < length s.path → last_of s.path < last_of s.starts) where
  pub stacked : IsStack s
  stacked = record { nodes = λ i below. let n = is.nodes i below in let e = is.places in omega arith; stands = is.stands; opened = is.opened }

  abbrev start : ℕ
  start = last_of s.starts

  abbrev number : ℕ
  number = length s.order

  abbrev size : ℕ
  size = length s.stack

  abbrev added : List ℕ
  added = take (size - start) (drop start s.stack)

  pub starts_inside : last_of s.starts < length s.stack
  starts_inside = elim (cases_lt 0 (length s.starts)) [
    | inl h ↦ is.starts_below (length s.starts - 1) (omega arith)
    | inr h ↦ let e = get_or_past s.starts (length s.starts - 1) 0 (omega arith) in omega arith
  ]

  pub place_now : (v : ℕ) → place_of (closed s) v ≡ closing start size number (place_of s v)
  place_now v = at_map (closing start size number) s.places v (Closed 0)

  pub stays_closed : (v k : ℕ) → place_of s v ≡ Closed k → place_of (closed s) v ≡ Closed k
  stays_closed v k at = place_now v ∙ ap (closing start size number) at

  pub stays_open : (v i : ℕ) → place_of s v ≡ Open i → i < start → place_of (closed s) v ≡ Open i
  stays_open v i at low = place_now v ∙ ap (closing start size number) at ∙ closing-low start size number i low

  pub closes_now : (v i : ℕ) → place_of s v ≡ Open i → start ≤ i → place_of (closed s) v ≡ Closed number
  closes_now v i at high = place_now v ∙ ap (closing start size number) at ∙ closing-in start size number i high (is.opened v i at).0

  from_closed : (v k : ℕ) → place_of (closed s) v ≡ Closed k → (place_of s v ≡ Closed k) ⊎ ((i : ℕ) × (place_of s v ≡ Open i) × (start ≤ i) × (k ≡ number))
  from_closed v k at = closed_from start size number k (place_of s v) (sym (place_now v) ∙ at)

  from_open : (v i : ℕ) → place_of (closed s) v ≡ Open i → (place_of s v ≡ Open i) × (i < start)
  from_open v i at =
      let h = open_from start size number i (place_of s v) (sym (place_now v) ∙ at) in
      (h.0, elim h.1 [ inl low ↦ low | inr past ↦ let o = (is.opened v i h.0).0 in absurd (omega arith) ])

  fewer_open : (i : ℕ) → i < length (closed s).stack → (i < size) × (i < start)
  fewer_open i below = fewer s.stack start i below

  at_now : (i : ℕ) → i < length (closed s).stack → open_at (closed s) i ≡ open_at s i
  at_now i below = get_or-take start s.stack i 0 (fewer_open i below).1

  -- ---- the list of closed nodes

  added_length : length added ≡ size - start
  added_length = omega (arith, length-take (size - start) (drop start s.stack), length-drop start s.stack)

  order_length : length (closed s).order ≡ number + (size - start)
  order_length = omega (arith, length-append s.order added, added_length)

  order_old : (i : ℕ) → i < number → get_or (closed s).order i 0 ≡ get_or s.order i 0
  order_old i below = get_or_append_left s.order added 0 i below

  order_new : (i : ℕ) → number ≤ i → i < number + (size - start) → get_or (closed s).order i 0 ≡ open_at s (start + (i - number))
  order_new i from below =
      get_or-append_right s.order added number i 0 refl from
      ∙ get_or-take (size - start) (drop start s.stack) (i - number) 0 (omega arith)
      ∙ get_or-drop start s.stack (i - number) 0

  -- ---- what is closed

  falls_new : (v i : ℕ) → place_of s v ≡ Open i → start ≤ i → (w : ℕ) → Contains (successors graph v) w → (j : ℕ) × (j ≤ number) × (place_of (closed s) w ≡ Closed j)
  falls_new v i at high w c =
      met_by w (subst (λ (x : ℕ). IsMet s i x) h.2 (subst (λ (x : ℕ). IsMet s i (get_or (successors graph x) h.0 0)) o.1 (is.met i h.0 o.0 (omega (arith, none_left)) (subst (λ (x : ℕ). h.0 < length (successors graph x)) (sym o.1) h.1))))
    where
      o : (i < length s.stack) × (open_at s i ≡ v)
      o = is.opened v i at

      h : Has (successors graph v) w
      h = contained (successors graph v) w c

      none_left : get_or s.left (open_at s i) 0 ≡ 0
      none_left = elim (cases_lt 0 (get_or s.left (open_at s i) 0)) [
        | inr z ↦ omega arith
        | inl p ↦
            let q = is.waits i o.0 p in
            let e = q.2 in
            let b = all_below_last s.path start is.path_rises idle q.0 q.1 in
            absurd (omega arith)
      ]

      open_below : (j : ℕ) → ((b : ℕ) → Has s.starts b → b ≤ i → b ≤ j) → start ≤ j
      open_below j before = elim (cases_lt 0 (length s.starts)) [
        | inl p ↦ before start (length s.starts - 1, omega arith, refl) high
        | inr z ↦ let e = get_or_past s.starts (length s.starts - 1) 0 (omega arith) in omega arith
      ]

      met_by : (w : ℕ) → IsMet s i w → (j : ℕ) × (j ≤ number) × (place_of (closed s) w ≡ Closed j)
      met_by w (inr m) = (number, omega arith, closes_now w m.0 m.1 (open_below m.0 m.2))
      met_by w (inl m) = elim (cases_lt w (length graph)) [
        | inl node ↦ let l = is.listed w m.0 node m.1 in (m.0, omega (arith, l.0), stays_closed w m.0 m.1)
        | inr past ↦ (0, omega arith, place_now w ∙ ap (closing start size number) (get_or_past s.places w (Closed 0) (omega (arith, is.places))))
      ]

  falls_now : (v k : ℕ) → place_of (closed s) v ≡ Closed k → (w : ℕ) → Contains (successors graph v) w → (j : ℕ) × (j ≤ k) × (place_of (closed s) w ≡ Closed j)
  falls_now v k at w c = elim (from_closed v k at) [
    | inl old ↦ let h = is.falls v k old w c in (h.0, h.1, stays_closed w h.0 h.2)
    | inr new ↦ let h = falls_new v new.0 new.1 new.2 w c in let e = new.3 in (h.0, omega (arith, h.1), h.2)
  ]

  -- nodes of the group reach one another
  in_group : (i j : ℕ) → start ≤ i → i < size → start ≤ j → j < size → Gets graph (open_at s i) (open_at s j)
  in_group i j hi bi hj bj = elim (cases_lt j i) [
    | inr le ↦ is.onward i j le bj
    | inl less ↦ is.back j i less bi (λ b has after upto. let h = has_to_last s.starts is.starts_rise b has in absurd (omega arith))
  ]

  joined_now : (v w k : ℕ) → v < length graph → w < length graph → place_of (closed s) v ≡ Closed k → place_of (closed s) w ≡ Closed k → Gets graph v w
  joined_now v w k nv nw av aw = by (from_closed v k av) (from_closed w k aw)
    where
      by : (place_of s v ≡ Closed k) ⊎ ((i : ℕ) × (place_of s v ≡ Open i) × (start ≤ i) × (k ≡ number))
          → (place_of s w ≡ Closed k) ⊎ ((i : ℕ) × (place_of s w ≡ Open i) × (start ≤ i) × (k ≡ number)) → Gets graph v w
      by (inl a) (inl b) = is.joined v w k nv nw a b
      by (inl a) (inr b) = let l = (is.listed v k nv a).0 in let e = b.3 in absurd (omega arith)
      by (inr a) (inl b) = let l = (is.listed w k nw b).0 in let e = a.3 in absurd (omega arith)
      by (inr a) (inr b) =
          let p = is.opened v a.0 a.1 in
          let q = is.opened w b.0 b.1 in
          subst (λ (x : ℕ). Gets graph x w) p.1 (subst (λ (y : ℕ). Gets graph (open_at s a.0) y) q.1 (in_group a.0 b.0 a.2 p.0 b.2 q.0))

  first_new : get_or (closed s).order number 0 ≡ open_at s start
  first_new = order_new number (omega arith) (let h = starts_inside in omega arith) ∙ ap (open_at s) (omega arith)

  listed_now : (v k : ℕ) → v < length graph → place_of (closed s) v ≡ Closed k
      → (k < length (closed s).order) × (get_or (closed s).order k 0 < length graph) × (place_of (closed s) (get_or (closed s).order k 0) ≡ Closed k)
  listed_now v k node at = elim (from_closed v k at) [
    | inl old ↦ let h = is.listed v k node old in let e = order_old k h.0 in
        (omega (arith, order_length, h.0), subst (λ (x : ℕ). x < length graph) (sym e) h.1, ap (place_of (closed s)) e ∙ stays_closed (get_or s.order k 0) k h.2)
    | inr new ↦ let e : get_or (closed s).order k 0 ≡ open_at s start = ap (λ x. get_or (closed s).order x 0) new.3 ∙ first_new in
        let inside = starts_inside in let q = new.3 in (
          omega (arith, order_length),
          subst (λ (x : ℕ). x < length graph) (sym e) (is.nodes start inside),
          ap (place_of (closed s)) e ∙ closes_now (open_at s start) start (is.stands start inside) (omega arith) ∙ ap Closed (sym q),
        )
  ]

  numbered_now : (i : ℕ) → i < length (closed s).order
      → (get_or (closed s).order i 0 < length graph) × ((k : ℕ) × (k ≤ i) × (place_of (closed s) (get_or (closed s).order i 0) ≡ Closed k))
  numbered_now i below = elim (cases_lt i number) [
    | inl old ↦ let h = is.numbered i old in let e = order_old i old in
        (subst (λ (x : ℕ). x < length graph) (sym e) h.0, (h.1.0, h.1.1, ap (place_of (closed s)) e ∙ stays_closed (get_or s.order i 0) h.1.0 h.1.2))
    | inr new ↦
        let len = order_length in
        let inside = starts_inside in
        let e = order_new i new (omega arith) in
        let p = start + (i - number) in
        let in' : p < length s.stack = omega arith in (
          subst (λ (x : ℕ). x < length graph) (sym e) (is.nodes p in'),
          (number, new, ap (place_of (closed s)) e ∙ closes_now (open_at s p) p (is.stands p in') (omega arith)),
        )
  ]

  -- ---- what stays open

  together_before : (i j : ℕ) → j < start → Together (closed s) i j → Together s i j
  together_before i j low together b has after upto = together b (not_last s.starts b has (omega arith)) after upto

  met_before : (i w : ℕ) → IsMet s i w → IsMet (closed s) i w
  met_before i w (inl m) = inl (m.0, stays_closed w m.0 m.1)
  met_before i w (inr m) = elim (cases_lt m.0 start) [
    | inl low ↦ inr (m.0, stays_open w m.0 m.1 low, λ b has le. m.2 b (take_has s.starts (length s.starts - 1) b has) le)
    | inr high ↦ inl (number, closes_now w m.0 m.1 high)
  ]

  counted_now : count_by is_closed (closed s).places ≡ length (closed s).order
  counted_now =
      let inside = starts_inside in
      ap (λ e. count_by is_closed (map (closing start e number) s.places)) (omega arith)
      ∙ counted_to s stacked start number (size - start) (omega arith) is.counted ∙ sym order_length

  pub closes : IsSearch graph (closed s)
  closes = record {
    places = length-map s.places (closing start size number) ∙ is.places;
    lefts = is.lefts;
    most = is.most;
    fresh = λ v at. is.fresh v (unseen_from start size number (place_of s v) (sym (place_now v) ∙ at));
    nodes = λ i below. subst (λ (x : ℕ). x < length graph) (sym (at_now i below)) (is.nodes i (fewer_open i below).0);
    stands = λ i below. ap (place_of (closed s)) (at_now i below) ∙ stays_open (open_at s i) i (is.stands i (fewer_open i below).0) (fewer_open i below).1;
    opened = λ v i at.
        let h = from_open v i at in
        let o = is.opened v i h.0 in
        let below : i < length (closed s).stack = omega (arith, length-take start s.stack, o.0, h.1) in
        (below, at_now i below ∙ o.1);
    falls = falls_now;
    joined = joined_now;
    listed = listed_now;
    numbered = numbered_now;
    counted = counted_now;
    onward = λ i j le below.
        let l : i < length (closed s).stack = omega arith in
        subst (λ (x : ℕ). Gets graph x (open_at (closed s) j)) (sym (at_now i l)) (subst (λ (y : ℕ). Gets graph (open_at s i) y) (sym (at_now j below)) (is.onward i j le (fewer_open j below).0));
    back = λ i j less below together.
        let l : i < length (closed s).stack = omega arith in
        subst (λ (x : ℕ). Gets graph x (open_at (closed s) i)) (sym (at_now j below)) (subst (λ (y : ℕ). Gets graph (open_at s j) y) (sym (at_now i l))
        (is.back i j less (fewer_open j below).0 (together_before i j (fewer_open j below).1 together)));
    met = λ i e below left end.
        subst (λ (x : ℕ). IsMet (closed s) i (get_or (successors graph x) e 0)) (sym (at_now i below))
        (met_before i (get_or (successors graph (open_at s i)) e 0)
        (is.met i e (fewer_open i below).0 (subst (λ (x : ℕ). get_or s.left x 0 ≤ e) (at_now i below) left) (subst (λ (x : ℕ). e < length (successors graph x)) (at_now i below) end)));
    waits = λ i below more. is.waits i (fewer_open i below).0 (subst (λ (x : ℕ). 0 < get_or s.left x 0) (at_now i below) more);
    path_rises = is.path_rises;
    path_below = λ p below. let a = all_below_last s.path start is.path_rises idle p below in let inside = starts_inside in omega (arith, length-take start s.stack);
    starts_rise = rises_take s.starts (length s.starts - 1) is.starts_rise;
    starts_below = λ p below. let a = below_last s.starts is.starts_rise p below in let inside = starts_inside in omega (arith, length-take start s.stack);
  }

-- ---- as the program closes it

pub closed_none : (s : State) (p : ℕ) → p ≡ last_of s.starts → s ≡ closed_to s p
closed_none s p at =
    let start = last_of s.starts in
    let places : s.places ≡ map (closing start p (length s.order)) s.places =
    sym (same_map (closing start start (length s.order)) s.places (nothing_closes start (length s.order))) ∙ ap (λ e. map (closing start e (length s.order)) s.places) (sym at) in
    let none : take (p - start) (drop start s.stack) ≡ [] = ap (λ n. take n (drop start s.stack)) (let e : p - start ≡ 0 = omega arith in e) in
    let order : s.order ≡ s.order ++ take (p - start) (drop start s.stack) = sym (append-nil s.order) ∙ ap (λ (l : List ℕ). s.order ++ l) (sym none) in
    λ i. record s { places = places i; order = order i }

closed_one : (s : State) → IsStack s → (p : ℕ) → p < length s.stack → last_of s.starts ≤ p → shut_at (closed_to s p) p (length s.order) ≡ closed_to s (p + 1)
closed_one s is p below from =
    let start = last_of s.starts in
    let order : (s.order ++ take (p - start) (drop start s.stack)) ++ open_at s p ∷ [] ≡ s.order ++ take (p + 1 - start) (drop start s.stack) =
    append_assoc s.order (take (p - start) (drop start s.stack)) (open_at s p ∷ [])
    ∙ ap (λ x. s.order ++ (take (p - start) (drop start s.stack) ++ x ∷ [])) (ap (λ k. get_or s.stack k 0) (let e : p ≡ start + (p - start) = omega arith in e) ∙ sym (get_or-drop start s.stack (p - start) 0))
    ∙ ap (λ (l : List ℕ). s.order ++ l) (sym (take_more (drop start s.stack) (p - start) 0 (omega (arith, length-drop start s.stack))) ∙ ap (λ k. take k (drop start s.stack)) (let e : p - start + 1 ≡ p + 1 - start = omega arith in e)) in
    λ i. record s { places = shut_goes s is start (length s.order) p below from i; order = order i }

pub closed_more : (s u t : State) → IsStack s → (p n : ℕ) → p < length s.stack → last_of s.starts ≤ p → n ≡ length s.order
    → u ≡ closed_to s p → t ≡ shut_at u p n → t ≡ closed_to s (p + 1)
closed_more s u t is p n below from number so to =
    to ∙ ap (λ (x : State). shut_at x p n) so ∙ ap (λ k. shut_at (closed_to s p) p k) number ∙ closed_one s is p below from
