-- Nodes by their heights are an order.
use Rattle.std.proofs.Common.{◌≡◌, ℕ, zero, suc, ◌+◌, ◌<◌, ◌≤◌, ◌==◌, Bool, true, false, cond, List, [], ◌∷◌, ◌++◌, length, get_or, refl, sym, ap, ◌∙◌, subst, inl, inr, length-append, arith}
use Rattle.std.specs.Prelude.{⊤}
use Rattle.std.specs.List.{Contains, filter, flat_map, range_with_len}
use Rattle.std.proofs.lemmas.Bool.{cases_lt}
use Rattle.std.proofs.lemmas.List.FromFn.{get_or-range_with_len, length-range_with_len}
use Rattle.sl_spec_constructors.proofs.MemberLemmas.{in_filter, in_flat}
use Rattle.sl_base_graphs.specs.Heights.{AreHeights, above}
use Rattle.sl_base_graphs.proofs.OneHeight.{member_below}
use Rattle.sl_base_graphs.proofs.SomeHeights.{some_heights}
use Rattle.sl_base_graphs.specs.Orders.{IsOrder, StandsBefore}
use Rattle.sl_base_graphs.specs.Reaching.{Graph, successors}
use Rattle.sl_faithful_limits.specs.OrderLaws.{GraphsHaveOrders, TablesKeepLimits}
use Rattle.sl_section_weights.proofs.WeightLemmas.{none_reach}

itself : (n : ℕ) → (n == n) ≡ true
itself n = grind arith

same : (a b : ℕ) → (a == b) ≡ true → a ≡ b
same a b h = grind arith

module _ (H : ℕ → ℕ) where
  abbrev at : ℕ → List ℕ → List ℕ
  at n vs = filter (λ u. H u == n) vs

  abbrev from : ℕ → ℕ → List ℕ → List ℕ
  from k len vs = flat_map (λ n. at n vs) (range_with_len k len)

  -- heights don't sink from n on
  abbrev Rise : ℕ → List ℕ → Type 0
  Rise n [] = ⊤
  Rise n (v ∷ vs) = (n ≤ H v) × Rise (H v) vs

  lower : (m n : ℕ) (vs : List ℕ) → m ≤ n → Rise n vs → Rise m vs
  lower m n [] le r = tt
  lower m n (v ∷ vs) le r = (omega (arith, le, r.0), r.1)

  level_by : (n v : ℕ) (vs rest : List ℕ) (b : Bool) → (H v == n) ≡ b → Rise n (at n vs ++ rest) → Rise n (cond b (v ∷ at n vs) (at n vs) ++ rest)
  level_by n v vs rest true is r =
      let e : H v ≡ n = same (H v) n is in
      (omega (arith, e), subst (λ m. Rise m (at n vs ++ rest)) (sym e) r)
  level_by n v vs rest false is r = r

  level : (n : ℕ) (vs rest : List ℕ) → Rise n rest → Rise n (at n vs ++ rest)
  level n [] rest r = r
  level n (v ∷ vs) rest r = level_by n v vs rest (H v == n) refl (level n vs rest r)

  levels : (k len : ℕ) (vs : List ℕ) → Rise k (from k len vs)
  levels k zero vs = tt
  levels k (suc len) vs = level k vs _ (lower k (k + 1) _ (omega arith) (levels (k + 1) len vs))

  above_first : (n : ℕ) (vs : List ℕ) (j : ℕ) → Rise n vs → j < length vs → n ≤ H (get_or vs j 0)
  above_first n [] j r lt = absurd (let no : ⊥ = omega arith in no)
  above_first n (v ∷ vs) zero r lt = r.0
  above_first n (v ∷ vs) (suc j) r lt = let rest = above_first (H v) vs j r.1 (omega arith) in omega (arith, r.0, rest)

  rises : (n : ℕ) (vs : List ℕ) (i j : ℕ) → Rise n vs → i ≤ j → j < length vs → H (get_or vs i 0) ≤ H (get_or vs j 0)
  rises n [] i j r le lt = absurd (let no : ⊥ = omega arith in no)
  rises n (v ∷ vs) zero zero r le lt = omega arith
  rises n (v ∷ vs) zero (suc j) r le lt = above_first (H v) vs j r.1 (omega arith)
  rises n (v ∷ vs) (suc i) zero r le lt = absurd (let no : ⊥ = omega arith in no)
  rises n (v ∷ vs) (suc i) (suc j) r le lt = rises (H v) vs i j r.1 (omega arith) (omega arith)

  -- ---- how many there are

  other_level : (v n : ℕ) (vs : List ℕ) (b : Bool) → (H v == n) ≡ b → H v < n → length (cond b (v ∷ at n vs) (at n vs)) ≡ length (at n vs)
  other_level v n vs true is lt = let e = same (H v) n is in absurd (let no : ⊥ = omega (arith, e, lt) in no)
  other_level v n vs false is lt = refl

  past : (v k len : ℕ) (vs : List ℕ) → H v < k → length (from k len (v ∷ vs)) ≡ length (from k len vs)
  past v k zero vs lt = refl
  past v k (suc len) vs lt =
      let here = other_level v k vs (H v == k) refl lt in
      let rest = past v (k + 1) len vs (omega (arith, lt)) in
      omega (arith, here, rest, length-append (at k (v ∷ vs)) (from (k + 1) len (v ∷ vs)), length-append (at k vs) (from (k + 1) len vs))

  one_by : (v k len : ℕ) (vs : List ℕ) (b : Bool) → (H v == k) ≡ b → length (from (k + 1) len (v ∷ vs)) ≤ suc (length (from (k + 1) len vs))
      → length (cond b (v ∷ at k vs) (at k vs) ++ from (k + 1) len (v ∷ vs)) ≤ suc (length (at k vs ++ from (k + 1) len vs))
  one_by v k len vs true is rest =
      let e = same (H v) k is in
      let same_rest = past v (k + 1) len vs (omega (arith, e)) in
      omega (arith, same_rest, length-append (at k vs) (from (k + 1) len (v ∷ vs)), length-append (at k vs) (from (k + 1) len vs))
  one_by v k len vs false is rest =
      omega (arith, rest, length-append (at k vs) (from (k + 1) len (v ∷ vs)), length-append (at k vs) (from (k + 1) len vs))

  one : (v k len : ℕ) (vs : List ℕ) → length (from k len (v ∷ vs)) ≤ suc (length (from k len vs))
  one v k zero vs = omega arith
  one v k (suc len) vs = one_by v k len vs (H v == k) refl (one v (k + 1) len vs)

  none_at : (k len : ℕ) → length (from k len []) ≡ 0
  none_at k zero = refl
  none_at k (suc len) = none_at (k + 1) len

  few : (k len : ℕ) (vs : List ℕ) → length (from k len vs) ≤ length vs
  few k len [] = let h = none_at k len in omega (arith, h)
  few k len (v ∷ vs) = let h = one v k len vs in let rest = few k len vs in omega (arith, h, rest)

  -- ---- members

  height_has : (nodes : List ℕ) (v : ℕ) → Contains nodes v → Contains (from 0 (above H nodes) nodes) v
  height_has nodes v c =
      let lt = member_below H nodes v c in
      in_flat (λ n. at n nodes) (range_with_len 0 (above H nodes)) (H v) v
      (H v, omega (arith, lt, length-range_with_len 0 (above H nodes)), get_or-range_with_len 0 (above H nodes) (H v) (H v) lt ∙ omega arith)
      (in_filter (λ u. H u == H v) nodes v (itself (H v)) c)

  -- members that are below a number
  abbrev AllLow : ℕ → List ℕ → Type 0
  AllLow n [] = ⊤
  AllLow n (v ∷ vs) = (v < n) × AllLow n vs

  low_append : (n : ℕ) (xs ys : List ℕ) → AllLow n xs → AllLow n ys → AllLow n (xs ++ ys)
  low_append n [] ys a b = b
  low_append n (x ∷ xs) ys a b = (a.0, low_append n xs ys a.1 b)

  low_by : (n v : ℕ) (ws : List ℕ) (b : Bool) → v < n → AllLow n ws → AllLow n (cond b (v ∷ ws) ws)
  low_by n v ws true lt a = (lt, a)
  low_by n v ws false lt a = a

  low_at : (n k : ℕ) (vs : List ℕ) → AllLow n vs → AllLow n (at k vs)
  low_at n k [] a = tt
  low_at n k (v ∷ vs) a = low_by n v (at k vs) (H v == k) a.0 (low_at n k vs a.1)

  low_from : (n k len : ℕ) (vs : List ℕ) → AllLow n vs → AllLow n (from k len vs)
  low_from n k zero vs a = tt
  low_from n k (suc len) vs a = low_append n (at k vs) (from (k + 1) len vs) (low_at n k vs a) (low_from n (k + 1) len vs a)

  low_get : (n : ℕ) (vs : List ℕ) (i : ℕ) → AllLow n vs → i < length vs → get_or vs i 0 < n
  low_get n [] i a lt = absurd (let no : ⊥ = omega arith in no)
  low_get n (v ∷ vs) zero a lt = a.0
  low_get n (v ∷ vs) (suc i) a lt = low_get n vs i a.1 (omega arith)

  low_range : (k len : ℕ) → AllLow (k + len) (range_with_len k len)
  low_range k zero = tt
  low_range k (suc len) = (omega arith, subst (λ n. AllLow n (range_with_len (k + 1) len)) (omega arith) (low_range (k + 1) len))

default_at : (xs : List ℕ) (k d e : ℕ) → k < length xs → get_or xs k d ≡ get_or xs k e
default_at [] k d e lt = absurd (let no : ⊥ = omega arith in no)
default_at (x ∷ xs) zero d e lt = refl
default_at (x ∷ xs) (suc k) d e lt = default_at xs k d e (omega arith)

module _ (g : Graph) (hs : List ℕ) (are : AreHeights g hs) where
  abbrev H : ℕ → ℕ
  H v = get_or hs v 0

  abbrev nodes : List ℕ
  nodes = range_with_len 0 (length g)

  abbrev order : List ℕ
  order = from H 0 (above H nodes) nodes

  has : (v : ℕ) → v < length g → Contains order v
  has v lt = height_has H nodes v (v, omega (arith, lt, length-range_with_len 0 (length g)), get_or-range_with_len 0 (length g) v v lt ∙ omega arith)

  inside : (i : ℕ) → i < length order → get_or order i 0 < length g
  inside i lt = low_get H (length g) order i (low_from H (length g) 0 (above H nodes) nodes (subst (λ n. AllLow H n nodes) (omega arith) (low_range H 0 (length g)))) lt

  behind : (i : ℕ) → i < length order → (w : ℕ) → Contains (successors g (get_or order i 0)) w → w < length g → StandsBefore order i w
  behind i lt w c low =
      let at = has w low in
      let there : get_or order at.0 0 ≡ w = default_at order at.0 0 w at.1 ∙ at.2 in
      let less = member_below H (successors g (get_or order i 0)) w c in
      let here = are.each (get_or order i 0) (inside i lt) in
      elim (cases_lt at.0 i) [
        | inl before ↦ (at.0, before, there)
        | inr after ↦
            let up = rises H 0 order i at.0 (levels H 0 (above H nodes) nodes) after at.1 in
            let there' : H (get_or order at.0 0) ≡ H w = ap H there in
            absurd (let no : ⊥ = omega (arith, less, here, up, there') in no)
      ]

  is_order : IsOrder g order
  is_order = record {
    behind = behind;
    nodes = inside;
    all = λ v lt. let at = has v lt in (at.0, at.1, default_at order at.0 0 v at.1 ∙ at.2);
    long = let f = few H 0 (above H nodes) nodes in omega (arith, f, length-range_with_len 0 (length g));
  }

pub graphs_have_orders : GraphsHaveOrders
graphs_have_orders g none =
    let h = some_heights g none in
    record { order = order g h.0 h.1; is_order = is_order g h.0 h.1 }

pub tables_keep_limits : TablesKeepLimits
tables_keep_limits t cs macros l late light =
    let o = graphs_have_orders _ (none_reach t cs late) in
    record {
      order = o.order;
      is_order = o.is_order;
      late = late;
      light = light;
      written = let e = l.counted in omega (arith, e);
      in_table = l.below;
    }
