-- How the search begins and ends.
use Rattle.std.proofs.Common.{◌≡◌, ◌≢◌, ℕ, zero, suc, ◌+◌, ◌<◌, ◌≤◌, inl, inr, List, [], length, get_or, cond, replicate, refl, ap, ◌∙◌, subst, arith, count_by}
use Rattle.std.proofs.lemmas.Bool.{cases_lt}
use Rattle.std.proofs.lemmas.List.{length-map, length-replicate, get_or-replicate, get_or_past}
use Rattle.std.proofs.lemmas.List.Sums.{sum_by-cons}
use Rattle.sl_base_graphs.specs.Reaching.{Graph, successors}
use Rattle.sl_base_graphs.specs.States.{State, beginning, is_closed, place_of}
use Rattle.sl_base_graphs.specs.Searches.{HasSeen, IsDone, IsFurther, IsSearch}
use Rattle.sl_base_graphs.specs.declared.search.Place.{Place}
use Rattle.sl_base_graphs.specs.declared.search.Place.TheVariants.{Unseen, Open, Closed}
use Rattle.sl_base_graphs.proofs.Seen.{at_map}

none_closed : (n : ℕ) → count_by is_closed (replicate n Unseen) ≡ 0
none_closed zero = refl
none_closed (suc n) = sum_by-cons (λ p. cond (is_closed p) 1 0) Unseen (replicate n Unseen) ∙ (let e = none_closed n in omega arith)

module _ (graph : Graph) where
  unseen : (v : ℕ) → v < length graph → place_of (beginning graph) v ≡ Unseen
  unseen v below = get_or-replicate (length graph) v Unseen (Closed 0) below

  past : (v : ℕ) → length graph ≤ v → place_of (beginning graph) v ≡ Closed 0
  past v above = get_or_past (replicate (length graph) Unseen) v (Closed 0) (omega (arith, length-replicate (length graph) Unseen))

  left : (v : ℕ) → get_or (beginning graph).left v 0 ≡ length (successors graph v)
  left v = at_map (λ (l : List ℕ). length l) graph v []

  nothing_open : (v i : ℕ) → place_of (beginning graph) v ≢ Open i
  nothing_open v i at = elim (cases_lt v (length graph)) [
    | inl below ↦ let u = unseen v below in absurd (cc)
    | inr above ↦ let u = past v above in absurd (cc)
  ]

  only_past : (v k : ℕ) → place_of (beginning graph) v ≡ Closed k → length graph ≤ v
  only_past v k at = elim (cases_lt v (length graph)) [
    | inl below ↦ let u = unseen v below in absurd (cc)
    | inr above ↦ above
  ]

  pub begins : IsSearch graph (beginning graph)
  begins = record {
    places = length-replicate (length graph) Unseen;
    lefts = length-map graph (λ (l : List ℕ). length l);
    most = λ v. omega (arith, left v);
    fresh = λ v at. left v;
    nodes = λ i below. absurd (omega arith);
    stands = λ i below. absurd (omega arith);
    opened = λ v i at. absurd (nothing_open v i at);
    falls = λ v k at w c. (let none : successors graph v ≡ [] = get_or_past graph v [] (only_past v k at) in let e = ap length none in absurd (omega (arith, c.1)));
    joined = λ v w k nv nw av aw. (let o = only_past v k av in absurd (omega arith));
    listed = λ v k nv av. (let o = only_past v k av in absurd (omega arith));
    numbered = λ i below. absurd (omega arith);
    counted = none_closed (length graph);
    onward = λ i j le below. absurd (omega arith);
    back = λ i j less below t. absurd (omega arith);
    met = λ i e below l end. absurd (omega arith);
    waits = λ i below l. absurd (omega arith);
    path_rises = λ p q less end. absurd (omega arith);
    path_below = λ p end. absurd (omega arith);
    starts_rise = λ p q less end. absurd (omega arith);
    starts_below = λ p end. absurd (omega arith);
  }

  pub one_seen : (s t : State) (root : ℕ) → IsFurther graph s root t → HasSeen s root → HasSeen t (root + 1)
  one_seen s t root further seen v below = elim (cases_lt v root) [
    | inl before ↦ further.seen v (seen v before)
    | inr from ↦ subst (λ x. place_of t x ≢ Unseen) (omega arith) further.here
  ]

  closed_by : (s : State) → IsSearch graph s → length s.stack ≡ 0 → (v : ℕ) (p : Place) → place_of s v ≡ p → p ≢ Unseen → (k : ℕ) × (place_of s v ≡ Closed k)
  closed_by s is empty v Unseen at n = absurd (n refl)
  closed_by s is empty v (Open i) at n = let o = (is.opened v i at).0 in absurd (omega arith)
  closed_by s is empty v (Closed k) at n = (k, at)

  pub ends : (s : State) (n : ℕ) → length graph ≤ n → IsSearch graph s → length s.stack ≡ 0 → HasSeen s n → IsDone graph s
  ends s n all is empty seen = record {
    search = is;
    closed = λ v node. closed_by s is empty v (place_of s v) refl (seen v (omega arith));
  }
