-- Each step keeps the search and leaves less to do.
use Rattle.std.proofs.Common.{◌≡◌, ◌≢◌, ℕ, suc, ◌+◌, ◌-◌, ◌<◌, ◌≤◌, inl, inr, List, length, get_or, set, take, refl, sym, ap, ◌∙◌, subst, arith, sum_by}
use Rattle.std.specs.List.{Contains}
use Rattle.std.proofs.lemmas.Bool.{cases_lt, cases_eq}
use Rattle.std.proofs.lemmas.List.{length-take, length_push}
use Rattle.std.proofs.lemmas.List.Sums.{sum_by-set}
use Rattle.sl_base_graphs.specs.Reaching.{Graph, successors}
use Rattle.sl_base_graphs.specs.States.{State, closed, entered, joined_to, taken, stepped_back, last_of, open_at, place_of}
use Rattle.sl_base_graphs.specs.Searches.{Gets, IsEntry, IsJoined, IsMet, IsOn, IsSearch, IsStep, MeetsAt}
use Rattle.sl_base_graphs.specs.declared.search.Place.{Place}
use Rattle.sl_base_graphs.specs.declared.search.Place.TheVariants.{Unseen, Open, Closed}
use Rattle.sl_base_graphs.proofs.ListLemmas.{has_contained, push_old}
use Rattle.sl_base_graphs.proofs.Entering.{enters, here, elsewhere}
use Rattle.sl_base_graphs.proofs.Joining.{gets_successor, joins, met_open, steps_back, takes}
use Rattle.sl_base_graphs.proofs.Closing.{closes, closes_now, starts_inside, stays_closed, stays_open}

module _ (graph : Graph) (s : State) (is : IsSearch graph s) where
  module _ (i : ℕ) (on : IsOn s i) where
    pub on_stack : i < length s.stack
    on_stack = let h = is.path_below (length s.path - 1) (let o = on.some in omega arith) in let e = on.last in omega arith

    pub goes_back : get_or s.left (open_at s i) 0 ≡ 0 → IsStep graph s (stepped_back s)
    goes_back none = record {
      search = steps_back graph s is i on none;
      less = let o = on.some in omega (arith, length-take (length s.path - 1) s.path);
      seen = λ v h. h;
    }

    module _ (l : ℕ) (left : get_or s.left (open_at s i) 0 ≡ suc l) where
      abbrev node : ℕ
      node = open_at s i

      abbrev next : ℕ
      next = get_or (successors graph (open_at s i)) l 0

      is_next : Contains (successors graph (open_at s i)) next
      is_next = has_contained _ _ (l, (let m = is.most (open_at s i) in omega arith), refl)

      all_get : (h : ℕ) → h < length s.stack → Gets graph (open_at s h) next
      all_get h below = gets_successor graph s is h i next below on_stack on.group is_next

      spent : sum_by (λ n. n) (set s.left (open_at s i) l) + suc l ≡ sum_by (λ n. n) s.left + l
      spent = ap (λ x. sum_by (λ n. n) (set s.left (open_at s i) l) + x) (sym left)
          ∙ sum_by-set (λ n. n) s.left (open_at s i) l 0 (let n = is.nodes i on_stack in let e = is.lefts in omega arith)

      meets_unseen : place_of s next ≡ Unseen → IsStep graph s (taken (entered s next) (open_at s i) l)
      meets_unseen at =
          let entry : IsEntry graph s next = record { unseen = at; reached = all_get } in
          let t = entered s next in
          let same : open_at t i ≡ open_at s i = push_old s.stack next i on_stack in
          let below : i < length t.stack = (let o = on_stack in omega (arith, length_push s.stack next)) in
          let e = enters graph s next is entry in
          let met : IsMet t i next = inr (length s.stack, here graph s next is entry, λ b has le. (let o = on_stack in omega arith)) in
          record {
            search = subst (λ (x : ℕ). IsSearch graph (taken t x l)) same
                (takes graph t e i l below (ap (λ x. get_or s.left x 0) same ∙ left)
                (subst (λ (x : ℕ). IsMet t i (get_or (successors graph x) l 0)) (sym same) met));
            less = (let a = spent in omega (arith, length_push s.stack next, length_push s.path (length s.stack)));
            seen = λ v h. elim (cases_eq v next) [
              | inl q ↦ λ u. (let a = here graph s next is entry in let b = ap (place_of t) q in absurd (cc))
              | inr n ↦ λ u. h (sym (elsewhere graph s next is entry v n) ∙ u)
            ];
          }

      meets_open : (j : ℕ) (t : State) → place_of s next ≡ Open j → IsJoined s j t → IsStep graph s (taken t (open_at s i) l)
      meets_open j t at to =
          let o = is.opened next j at in
          let reached : (h : ℕ) → h < length s.stack → Gets graph (open_at s h) (open_at s j) = λ h below. subst (λ (x : ℕ). Gets graph (open_at s h) x) (sym o.1) (all_get h below) in
          let k = length t.starts in
          let u = joined_to s k in
          let last : last_of (take k s.starts) ≤ j = subst (λ (xs : List ℕ). last_of xs ≤ j) to.cut.is to.cut.last in
          let done : IsStep graph s (taken u (open_at s i) l) = record {
            search = takes graph u (joins graph s is j k to.cut.few to.cut.past last o.0 reached) i l on_stack left (met_open graph s is j k to.cut.few to.cut.past last o.0 reached i next at);
            less = (let a = spent in omega arith);
            seen = λ v h. h;
          } in
          subst (λ (x : State). IsStep graph s (taken x (open_at s i) l)) (sym (to.is ∙ ap (λ (xs : List ℕ). record s { starts = xs }) to.cut.is)) done

      meets_closed : (k : ℕ) → place_of s next ≡ Closed k → IsStep graph s (taken s (open_at s i) l)
      meets_closed k at = record {
        search = takes graph s is i l on_stack left (inl (k, at));
        less = (let a = spent in omega arith);
        seen = λ v h. h;
      }

      advances_by : (p : Place) (t : State) → place_of s next ≡ p → MeetsAt p s next t → IsStep graph s (taken t (open_at s i) l)
      advances_by Unseen t at to = subst (λ (x : State). IsStep graph s (taken x (open_at s i) l)) (sym to) (meets_unseen at)
      advances_by (Open j) t at to = meets_open j t at to
      advances_by (Closed k) t at to = subst (λ (x : State). IsStep graph s (taken x (open_at s i) l)) (sym to) (meets_closed k at)

      pub advances : (t : State) → MeetsAt (place_of s next) s next t → IsStep graph s (taken t (open_at s i) l)
      advances t to = advances_by (place_of s next) t refl to

  module _ (some : 0 < length s.stack) (idle : 0 < length s.path → last_of s.path < last_of s.starts) where
    seen_by : (v : ℕ) (p : Place) → place_of s v ≡ p → p ≢ Unseen → place_of (closed s) v ≢ Unseen
    seen_by v Unseen at h = absurd (h refl)
    seen_by v (Closed k) at h = λ u. let a = stays_closed graph s is some idle v k at in absurd (cc)
    seen_by v (Open i) at h = elim (cases_lt i (last_of s.starts)) [
      | inl low ↦ λ u. (let a = stays_open graph s is some idle v i at low in absurd (cc))
      | inr high ↦ λ u. (let a = closes_now graph s is some idle v i at high in absurd (cc))
    ]

    pub goes_on : IsStep graph s (closed s)
    goes_on = record {
      search = closes graph s is some idle;
      less = (let h = starts_inside graph s is some idle in omega (arith, length-take (last_of s.starts) s.stack));
      seen = λ v h. seen_by v (place_of s v) refl h;
    }
