-- What the finished search tells.
use Rattle.std.proofs.Common.{◌≡◌, ℕ, zero, suc, ◌<◌, ◌≤◌, ◌==◌, inl, inr, Bool, true, false, ◌||◌, List, [], ◌∷◌, length, get_or, refl, sym, ap, ◌∙◌, subst, arith, Some}
use Rattle.std.specs.Prelude.{slice_get}
use Rattle.std.specs.List.{Contains, list_any}
use Rattle.std.proofs.lemmas.Bool.{cases_lt}
use Rattle.std.proofs.lemmas.List.Sums.{count_by-le-length}
use Rattle.sl_base_graphs.specs.Reaching.{Graph, successors, Reaches, direct, further, reaches_itself}
use Rattle.sl_base_graphs.specs.Orders.{IsOrder, NoneReaches, StandsBefore}
use Rattle.sl_base_graphs.specs.States.{State, is_closed, is_numbered, place_of}
use Rattle.sl_base_graphs.specs.Searches.{Gets, IsDone}
use Rattle.sl_base_graphs.specs.declared.search.Place.{Place}
use Rattle.sl_base_graphs.specs.declared.search.Place.TheVariants.{Unseen, Open, Closed}
use Rattle.sl_base_graphs.proofs.Closure.{finds_reached, has_successors, is_reached, some_successor}
use Rattle.sl_base_graphs.proofs.Joining.{reach_then}
use Rattle.sl_base_graphs.proofs.ListLemmas.{contained, has_contained}

same_tests : (a b : Bool) → (a ≡ true → b ≡ true) → (b ≡ true → a ≡ true) → a ≡ b
same_tests true b f g = sym (f refl)
same_tests false true f g = g refl
same_tests false false f g = refl

any_at : {A : Type 0} (p : A → Bool) (xs : List A) (d : A) (k : ℕ) → k < length xs → p (get_or xs k d) ≡ true → list_any p xs ≡ true
any_at p [] d k below h = absurd (omega arith)
any_at p (x ∷ xs) d zero below h = ap (λ b. b || list_any p xs) h
any_at p (x ∷ xs) d (suc k) below h = or_right (p x) (list_any p xs) (any_at p xs d k (omega arith) h)
  where
    or_right : (a b : Bool) → b ≡ true → (a || b) ≡ true
    or_right true b h = refl
    or_right false b h = h

some_by : {A : Type 0} (p : A → Bool) (x : A) (xs : List A) (b : Bool) → p x ≡ b → (b || list_any p xs) ≡ true → ((d : A) → list_any p xs ≡ true → (k : ℕ) × (k < length xs) × (p (get_or xs k d) ≡ true))
    → (d : A) → (k : ℕ) × (k < suc (length xs)) × (p (get_or (x ∷ xs) k d) ≡ true)
some_by p x xs true is h rest d = (0, omega arith, is)
some_by p x xs false is h rest d = let r = rest d h in (suc r.0, omega (arith, r.1), r.2)

some_at : {A : Type 0} (p : A → Bool) (xs : List A) (d : A) → list_any p xs ≡ true → (k : ℕ) × (k < length xs) × (p (get_or xs k d) ≡ true)
some_at p [] d h = absurd (cc)
some_at p (x ∷ xs) d h = some_by p x xs (p x) refl h (λ d r. some_at p xs d r) d

-- a node that has a number is one, and is closed under it
numbered_here : (places : List Place) (w k : ℕ) → is_numbered k (slice_get places w) ≡ true → (w < length places) × (get_or places w (Closed 0) ≡ Closed k)
numbered_here [] w k h = absurd (cc)
numbered_here (Closed j ∷ ps) zero k h = (omega arith, ap Closed (let e : j ≡ k = grind arith in e))
numbered_here (Open i ∷ ps) zero k h = absurd (cc)
numbered_here (Unseen ∷ ps) zero k h = absurd (cc)
numbered_here (p ∷ ps) (suc w) k h = let r = numbered_here ps w k h in (omega (arith, r.0), r.1)

has_number : (places : List Place) (w k : ℕ) → w < length places → get_or places w (Closed 0) ≡ Closed k → is_numbered k (slice_get places w) ≡ true
has_number [] w k below is = absurd (omega arith)
has_number (p ∷ ps) zero k below is = ap (λ q. is_numbered k (Some q)) is ∙ (let e : (k == k) ≡ true = grind arith in e)
has_number (p ∷ ps) (suc w) k below is = has_number ps w k (omega arith) is

module _ (graph : Graph) (s : State) (done : IsDone graph s) where
  falls_on : {v w : ℕ} → Reaches graph v w → (k : ℕ) → place_of s v ≡ Closed k → (j : ℕ) × (j ≤ k) × (place_of s w ≡ Closed j)
  falls_on (direct c) k at = done.search.falls _ k at _ c
  falls_on (further c r) k at =
      let h = done.search.falls _ k at _ c in
      let q = falls_on r h.0 h.2 in
      (q.0, omega (arith, q.1, h.1), q.2)

  -- a successor under the same number leads back
  leads_back : (v w k : ℕ) → v < length graph → w < length graph → place_of s v ≡ Closed k → place_of s w ≡ Closed k → Contains (successors graph v) w → Reaches graph v v
  leads_back v w k nv nw av aw c = by (done.search.joined w v k nw nv aw av)
    where
      by : Gets graph w v → Reaches graph v v
      by (inl e) = direct (subst (λ (x : ℕ). Contains (successors graph v) x) e c)
      by (inr r) = further c r

  -- a node that reaches itself has a successor under its number
  stays : (v k : ℕ) → place_of s v ≡ Closed k → Reaches graph v v → (w : ℕ) × Contains (successors graph v) w × (w < length graph) × (place_of s w ≡ Closed k)
  stays v k at (direct c) = (v, c, has_successors graph v (omega (arith, c.1)), at)
  stays v k at (further {w = w} c r) =
      let h = done.search.falls v k at w c in
      let q = falls_on r h.0 h.2 in
      let e : q.0 ≡ k = same q.0 k (sym q.2 ∙ at) in
      (w, c, has_successors graph w (some_successor graph r), h.2 ∙ ap Closed (omega (arith, h.1, q.1)))
    where
      same : (a b : ℕ) → Closed a ≡ Closed b → a ≡ b
      same a b e = cc

  pub reaching : (v k : ℕ) → v < length graph → place_of s v ≡ Closed k → list_any (λ w. is_numbered k (slice_get s.places w)) (successors graph v) ≡ reaches_itself graph v
  reaching v k node at =
      same_tests _ _ finds tells
    where
      finds : list_any (λ w. is_numbered k (slice_get s.places w)) (successors graph v) ≡ true → reaches_itself graph v ≡ true
      finds h =
          let r = some_at (λ w. is_numbered k (slice_get s.places w)) (successors graph v) 0 h in
          let w = get_or (successors graph v) r.0 0 in
          let n = numbered_here s.places w k r.2 in
          finds_reached graph v v (leads_back v w k node (omega (arith, n.0, done.search.places)) at n.1 (has_contained (successors graph v) w (r.0, r.1, refl)))

      tells : reaches_itself graph v ≡ true → list_any (λ w. is_numbered k (slice_get s.places w)) (successors graph v) ≡ true
      tells h =
          let r = stays v k at (is_reached graph (length graph) v v h) in
          let c = contained (successors graph v) r.0 r.1 in
          any_at (λ w. is_numbered k (slice_get s.places w)) (successors graph v) 0 c.0 c.1
          (ap (λ w. is_numbered k (slice_get s.places w)) c.2 ∙ has_number s.places r.0 k (omega (arith, r.2, done.search.places)) r.3)

  module _ (none : NoneReaches graph) where
    not_back : (v : ℕ) → v < length graph → Reaches graph v v → ⊥
    not_back v node r = let a = none v node in let b = finds_reached graph v v r in absurd (cc)

    same_by : (v w : ℕ) → v < length graph → Gets graph v w → Gets graph w v → w ≡ v
    same_by v w node (inl e) h = sym e
    same_by v w node (inr r) (inl e) = e
    same_by v w node (inr r) (inr q) = absurd (not_back v node (reach_then graph r q))

    single : (v k : ℕ) → v < length graph → place_of s v ≡ Closed k → get_or s.order k 0 ≡ v
    single v k node at =
        let l = done.search.listed v k node at in
        let o = get_or s.order k 0 in
        same_by v o node (done.search.joined v o k node l.1 at l.2) (done.search.joined o v k l.1 node l.2 at)

    behind : (i : ℕ) → i < length s.order → (w : ℕ) → Contains (successors graph (get_or s.order i 0)) w → w < length graph → StandsBefore s.order i w
    behind i below w c node =
        let n = done.search.numbered i below in
        let v = get_or s.order i 0 in
        let f = done.search.falls v n.1.0 n.1.2 w c in
        elim (cases_lt f.0 n.1.0) [
          | inl less ↦ (f.0, omega (arith, n.1.1), single w f.0 node f.2)
          | inr ge ↦ absurd (not_back v n.0 (leads_back v w n.1.0 n.0 node n.1.2 (f.2 ∙ ap Closed (omega (arith, f.1))) c))
        ]

    pub in_order : IsOrder graph s.order
    in_order = record {
      behind = behind;
      nodes = λ i below. (done.search.numbered i below).0;
      all = λ v node. (let k = done.closed v node in let l = done.search.listed v k.0 node k.1 in (k.0, l.0, single v k.0 node k.1));
      long = (let a = count_by-le-length is_closed s.places in let b = done.search.counted in let p = done.search.places in omega arith);
    }
