-- The closure tells what reaches what.
use Rattle.std.proofs.Common.{◌≡◌, ℕ, zero, suc, ◌==◌, ◌<◌, ◌⊎◌, inl, inr, Bool, true, false, ◌||◌, ◌&&◌, List, [], ◌∷◌, length, get_or, refl, sym, ap, subst, arith}
use Rattle.std.specs.List.{Contains, list_any}
use Rattle.std.proofs.lemmas.Bool.{cases_lt}
use Rattle.std.proofs.lemmas.List.{get_or_past}
use Rattle.sl_base_graphs.specs.Reaching.{Graph, successors, Reaches, direct, further, reaches_over, TellsReaching}

-- ---- tests

or_left : (a b : Bool) → a ≡ true → (a || b) ≡ true
or_left true b h = refl
or_left false b h = absurd (cc)

or_right : (a b : Bool) → b ≡ true → (a || b) ≡ true
or_right true b h = refl
or_right false b h = h

both : (a b : Bool) → a ≡ true → b ≡ true → (a && b) ≡ true
both true b h k = k
both false b h k = absurd (cc)

either : (a b : Bool) → (a || b) ≡ true → (a ≡ true) ⊎ (b ≡ true)
either true b h = inl refl
either false b h = inr h

first_holds : (a b : Bool) → (a && b) ≡ true → a ≡ true
first_holds true b h = refl
first_holds false b h = absurd (cc)

second_holds : (a b : Bool) → (a && b) ≡ true → b ≡ true
second_holds true b h = h
second_holds false b h = absurd (cc)

is_same : (a b : ℕ) → (a == b) ≡ true → a ≡ b
is_same a b h = grind arith

same_is : (a : ℕ) → (a == a) ≡ true
same_is a = grind arith

found : (xs : List ℕ) (w : ℕ) → list_any (λ x. x == w) xs ≡ true → Contains xs w
found [] w h = absurd (cc)
found (x ∷ xs) w h = elim (either (x == w) (list_any (λ x. x == w) xs) h) [
  | inl k ↦ (0, omega arith, is_same x w k)
  | inr k ↦ let c = found xs w k in (suc c.0, omega (arith, c.1), c.2)
]

finds_at : (xs : List ℕ) (w k : ℕ) → k < length xs → get_or xs k w ≡ w → list_any (λ x. x == w) xs ≡ true
finds_at [] w k below is = absurd (omega arith)
finds_at (x ∷ xs) w zero below is = or_left (x == w) _ (subst (λ (y : ℕ). (y == w) ≡ true) (sym is) (same_is w))
finds_at (x ∷ xs) w (suc k) below is = or_right (x == w) _ (finds_at xs w k (omega arith) is)

-- ---- what the closure finds is reached

module _ (graph : Graph) where
  reach_then : {v w x : ℕ} → Reaches graph v w → Reaches graph w x → Reaches graph v x
  reach_then (direct c) r = further c r
  reach_then (further c q) r = further c (reach_then q r)

  pub is_reached : (k v w : ℕ) → reaches_over graph k v w ≡ true → Reaches graph v w
  unfolding reaches_over
  is_reached zero v w h = direct (found (successors graph v) w h)
  is_reached (suc k) v w h =
      elim (either (reaches_over graph k v w) (reaches_over graph k v k && reaches_over graph k k w) h) [
        | inl q ↦ is_reached k v w q
        | inr q ↦ reach_then (is_reached k v k (first_holds _ _ q)) (is_reached k k w (second_holds _ _ q))
      ]

  -- ---- what is reached is found

  pub wider : (k v w : ℕ) → reaches_over graph 0 v w ≡ true → reaches_over graph k v w ≡ true
  unfolding reaches_over
  wider zero v w h = h
  wider (suc k) v w h = or_left _ _ (wider k v w h)

  -- over nodes below k, a node below k may stand between
  abbrev Over : ℕ → Type 0
  Over k = (v x w : ℕ) → x < k → reaches_over graph k v x ≡ true → reaches_over graph k x w ≡ true → reaches_over graph k v w ≡ true

  module _ (k v w : ℕ) where
    abbrev Found : Type 0
    Found = (reaches_over graph k v w || (reaches_over graph k v k && reaches_over graph k k w)) ≡ true

    through : reaches_over graph k v k ≡ true → reaches_over graph k k w ≡ true → Found
    through a b = or_right _ _ (both _ _ a b)

    over_by : (x : ℕ) → Over k → (x < k) ⊎ (x ≡ k)
        → (reaches_over graph k v x ≡ true) ⊎ ((reaches_over graph k v k && reaches_over graph k k x) ≡ true)
        → (reaches_over graph k x w ≡ true) ⊎ ((reaches_over graph k x k && reaches_over graph k k w) ≡ true)
        → Found
    over_by x so (inr e) (inl a) (inl b) = through (subst (λ (y : ℕ). reaches_over graph k v y ≡ true) e a) (subst (λ (y : ℕ). reaches_over graph k y w ≡ true) e b)
    over_by x so (inr e) (inl a) (inr b) = through (subst (λ (y : ℕ). reaches_over graph k v y ≡ true) e a) (second_holds _ _ b)
    over_by x so (inr e) (inr a) (inl b) = through (first_holds _ _ a) (subst (λ (y : ℕ). reaches_over graph k y w ≡ true) e b)
    over_by x so (inr e) (inr a) (inr b) = through (first_holds _ _ a) (second_holds _ _ b)
    over_by x so (inl l) (inl a) (inl b) = or_left _ _ (so v x w l a b)
    over_by x so (inl l) (inl a) (inr b) = through (so v x k l a (first_holds _ _ b)) (second_holds _ _ b)
    over_by x so (inl l) (inr a) (inl b) = through (first_holds _ _ a) (so k x w l (second_holds _ _ a) b)
    over_by x so (inl l) (inr a) (inr b) = through (first_holds _ _ a) (second_holds _ _ b)

  below_or_at : (x k : ℕ) → x < suc k → (x < k) ⊎ (x ≡ k)
  below_or_at x k below = elim (cases_lt x k) [ inl h ↦ inl h | inr h ↦ inr (omega arith) ]

  pub over : (k : ℕ) → Over k
  unfolding reaches_over
  over zero v x w below h q = absurd (omega arith)
  over (suc k) v x w below h q = over_by k v w x (over k) (below_or_at x k below) (either _ _ h) (either _ _ q)

  one : (v w : ℕ) → Contains (successors graph v) w → reaches_over graph 0 v w ≡ true
  unfolding reaches_over
  one v w c = finds_at (successors graph v) w c.0 c.1 c.2

  -- a node that reaches something has a successor, so it is one
  pub some_successor : {v w : ℕ} → Reaches graph v w → 0 < length (successors graph v)
  some_successor (direct c) = omega (arith, c.1)
  some_successor (further c r) = omega (arith, c.1)

  pub has_successors : (v : ℕ) → 0 < length (successors graph v) → v < length graph
  has_successors v some = elim (cases_lt v (length graph)) [
    | inl h ↦ h
    | inr h ↦ let e : successors graph v ≡ [] = get_or_past graph v [] h in absurd (omega (arith, ap length e))
  ]

  pub finds_reached : (v w : ℕ) → Reaches graph v w → reaches_over graph (length graph) v w ≡ true
  finds_reached v w (direct c) = wider (length graph) v w (one v w c)
  finds_reached v x (further {w = w} c r) =
      over (length graph) v w x (has_successors w (some_successor r)) (wider (length graph) v w (one v w c)) (finds_reached w x r)

pub told : TellsReaching
told = record {
  finds = λ graph v r. finds_reached graph v v r;
  is_right = λ graph v h. is_reached graph (length graph) v v h;
}
