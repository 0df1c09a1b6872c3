-- Groups are joined, a successor fewer is left, and the path goes back.
use Rattle.std.proofs.Common.{◌≡◌, ◌≢◌, ℕ, suc, ◌-◌, ◌<◌, ◌≤◌, inl, inr, length, get_or, set, take, sym, ap, ◌∙◌, subst, arith}
use Rattle.std.specs.List.{Contains}
use Rattle.std.proofs.lemmas.Bool.{cases_lt, cases_eq}
use Rattle.std.proofs.lemmas.List.{get_or-set_same, get_or-set_other, length-set, length-take, get_or-take}
use Rattle.sl_base_graphs.specs.Reaching.{Graph, Reaches, successors, direct, further}
use Rattle.sl_base_graphs.specs.States.{State, joined_to, taken, stepped_back, last_of, open_at, place_of}
use Rattle.sl_base_graphs.specs.Searches.{Has, Gets, IsMet, IsOn, IsSearch, Together}
use Rattle.sl_base_graphs.specs.declared.search.Place.TheVariants.{Unseen, Open}
use Rattle.sl_base_graphs.proofs.ListLemmas.{has_to_last, rises_take, below_take, take_has}

-- ---- what reaches what

module _ (graph : Graph) where
  pub reach_then : {v w x : ℕ} → Reaches graph v w → Reaches graph w x → Reaches graph v x
  reach_then (direct c) r = further c r
  reach_then (further c q) r = further c (reach_then q r)

  pub gets_then : (v w x : ℕ) → Gets graph v w → Gets graph w x → Gets graph v x
  gets_then v w x (inl e) h = subst (λ (y : ℕ). Gets graph y x) (sym e) h
  gets_then v w x (inr q) (inl e) = inr (subst (Reaches graph v) e q)
  gets_then v w x (inr q) (inr r) = inr (reach_then q r)

  module _ (s : State) (is : IsSearch graph s) where
    -- each open node reaches those of the last group
    pub gets_last : (i p : ℕ) → i < length s.stack → p < length s.stack → last_of s.starts ≤ p → Gets graph (open_at s i) (open_at s p)
    gets_last i p below at group = elim (cases_lt p i) [
      | inl less ↦ is.back p i less below (λ b has after upto. let h = has_to_last s.starts is.starts_rise b has in absurd (omega arith))
      | inr le ↦ is.onward i p le at
    ]

    -- and so a successor of one of them
    pub gets_successor : (i p w : ℕ) → i < length s.stack → p < length s.stack → last_of s.starts ≤ p → Contains (successors graph (open_at s p)) w → Gets graph (open_at s i) w
    gets_successor i p w below at group c = gets_then (open_at s i) (open_at s p) w (gets_last i p below at group) (inr (direct c))

    -- ---- groups are joined

    module _ (j k : ℕ) (few : k ≤ length s.starts) (past : (q : ℕ) → k ≤ q → q < length s.starts → j < get_or s.starts q 0) (to : last_of (take k s.starts) ≤ j)
        (there : j < length s.stack) (reached : (i : ℕ) → i < length s.stack → Gets graph (open_at s i) (open_at s j)) where
      pub not_after : (b : ℕ) → Has (take k s.starts) b → b ≤ j
      not_after b has = let h = has_to_last (take k s.starts) (rises_take s.starts k is.starts_rise) b has in omega arith

      kept : (b : ℕ) → Has s.starts b → b ≤ j → Has (take k s.starts) b
      kept b has le =
          let e = has.2 in
          let l : has.0 < k = elim (cases_lt has.0 k) [ inl h ↦ h | inr g ↦ let p = past has.0 g has.1 in absurd (omega arith) ] in
          (has.0, omega (arith, length-take k s.starts), get_or-take k s.starts has.0 0 l ∙ e)

      met_before : (i w : ℕ) → IsMet s i w → IsMet (joined_to s k) i w
      met_before i w (inl h) = inl h
      met_before i w (inr h) = inr (h.0, h.1, λ b has le. h.2 b (take_has s.starts k b has) le)

      -- the open node that is met is so from each
      pub met_open : (i w : ℕ) → place_of s w ≡ Open j → IsMet (joined_to s k) i w
      met_open i w at = inr (j, at, λ b has le. not_after b has)

      back_now : (i l : ℕ) → i < l → l < length s.stack → Together (joined_to s k) i l → Gets graph (open_at s l) (open_at s i)
      back_now i l less below together = elim (cases_lt j l) [
        | inr le ↦ is.back i l less below (λ b has after upto. together b (kept b has (omega arith)) after upto)
        | inl far ↦ gets_then (open_at s l) (open_at s j) (open_at s i) (reached l below) (elim (cases_lt i j) [
          | inl before ↦ is.back i j before there (λ b has after upto. together b (kept b has upto) after (omega arith))
          | inr le ↦ is.onward j i le (omega arith)
        ])
      ]

      pub joins : IsSearch graph (joined_to s k)
      joins = record {
        places = is.places;
        lefts = is.lefts;
        most = is.most;
        fresh = is.fresh;
        nodes = is.nodes;
        stands = is.stands;
        opened = is.opened;
        falls = is.falls;
        joined = is.joined;
        listed = is.listed;
        numbered = is.numbered;
        counted = is.counted;
        onward = is.onward;
        back = back_now;
        met = λ i e below left end. met_before i (get_or (successors graph (open_at s i)) e 0) (is.met i e below left end);
        waits = is.waits;
        path_rises = is.path_rises;
        path_below = is.path_below;
        starts_rise = rises_take s.starts k is.starts_rise;
        starts_below = below_take s.starts k (length s.stack) is.starts_below;
      }

    -- ---- a successor fewer is left

    module _ (i l : ℕ) (below : i < length s.stack) (is_left : get_or s.left (open_at s i) 0 ≡ suc l) (met : IsMet s i (get_or (successors graph (open_at s i)) l 0)) where
      in_left : open_at s i < length s.left
      in_left = let n = is.nodes i below in let e = is.lefts in omega arith

      left_here : get_or (set s.left (open_at s i) l) (open_at s i) 0 ≡ l
      left_here = get_or-set_same s.left (open_at s i) l 0 in_left

      left_else : (v : ℕ) → v ≢ open_at s i → get_or (set s.left (open_at s i) l) v 0 ≡ get_or s.left v 0
      left_else v n = get_or-set_other s.left (open_at s i) v l 0 n

      most_now : (v : ℕ) → get_or (set s.left (open_at s i) l) v 0 ≤ length (successors graph v)
      most_now v = elim (cases_eq v (open_at s i)) [
        | inl e ↦ subst (λ (x : ℕ). get_or (set s.left (open_at s i) l) x 0 ≤ length (successors graph x)) (sym e) (let a = left_here in let m = is.most (open_at s i) in omega arith)
        | inr n ↦ let a = left_else v n in let m = is.most v in omega arith
      ]

      fresh_now : (v : ℕ) → place_of s v ≡ Unseen → get_or (set s.left (open_at s i) l) v 0 ≡ length (successors graph v)
      fresh_now v at = left_else v (λ e. let a = is.stands i below in let b = ap (place_of s) e in absurd (cc)) ∙ is.fresh v at

      same_index : (h : ℕ) → h < length s.stack → open_at s h ≡ open_at s i → h ≡ i
      same_index h inside e = let a = is.stands h inside in let b = is.stands i below in let c = ap (place_of s) e in cc

      met_at : (h e : ℕ) → h ≡ i → l ≤ e → e < length (successors graph (open_at s h)) → IsMet s h (get_or (successors graph (open_at s h)) e 0)
      met_at h e at from end = elim (cases_lt l e) [
        | inl less ↦ is.met h e (omega arith) (let a = ap (λ x. get_or s.left (open_at s x) 0) at in omega arith) end
        | inr le ↦ subst (λ (x : ℕ). IsMet s x (get_or (successors graph (open_at s x)) e 0)) (sym at)
            (subst (λ (x : ℕ). IsMet s i (get_or (successors graph (open_at s i)) x 0)) (omega arith) met)
      ]

      met_now : (h e : ℕ) → h < length s.stack → get_or (set s.left (open_at s i) l) (open_at s h) 0 ≤ e → e < length (successors graph (open_at s h))
          → IsMet s h (get_or (successors graph (open_at s h)) e 0)
      met_now h e inside left end = elim (cases_eq (open_at s h) (open_at s i)) [
        | inl q ↦ met_at h e (same_index h inside q) (let a = left_here in let b = ap (λ x. get_or (set s.left (open_at s i) l) x 0) q in omega arith) end
        | inr n ↦ is.met h e inside (let a = left_else (open_at s h) n in omega arith) end
      ]

      waits_now : (h : ℕ) → h < length s.stack → 0 < get_or (set s.left (open_at s i) l) (open_at s h) 0 → Has s.path h
      waits_now h inside some = elim (cases_eq (open_at s h) (open_at s i)) [
        | inl q ↦ is.waits h inside (let b = ap (λ x. get_or s.left x 0) q in omega arith)
        | inr n ↦ is.waits h inside (let a = left_else (open_at s h) n in omega arith)
      ]

      pub takes : IsSearch graph (taken s (open_at s i) l)
      takes = record {
        places = is.places;
        lefts = length-set s.left (open_at s i) l ∙ is.lefts;
        most = most_now;
        fresh = fresh_now;
        nodes = is.nodes;
        stands = is.stands;
        opened = is.opened;
        falls = is.falls;
        joined = is.joined;
        listed = is.listed;
        numbered = is.numbered;
        counted = is.counted;
        onward = is.onward;
        back = is.back;
        met = met_now;
        waits = waits_now;
        path_rises = is.path_rises;
        path_below = is.path_below;
        starts_rise = is.starts_rise;
        starts_below = is.starts_below;
      }

    -- ---- the path goes back

    module _ (i : ℕ) (on : IsOn s i) (none : get_or s.left (open_at s i) 0 ≡ 0) where
      waits_back : (h : ℕ) → h < length s.stack → 0 < get_or s.left (open_at s h) 0 → Has (stepped_back s).path h
      waits_back h inside some =
          let c = is.waits h inside some in
          let e = c.2 in
          let last = on.last in
          let l : c.0 < length s.path - 1 = elim (cases_lt c.0 (length s.path - 1)) [
            | inl less ↦ less
            | inr le ↦
                let at : c.0 ≡ length s.path - 1 = omega (arith, c.1) in
                let q = ap (λ x. get_or s.path x 0) at in
                let same : h ≡ i = omega arith in
                let b = ap (λ x. get_or s.left (open_at s x) 0) same in
                absurd (omega arith)
          ] in
          (c.0, omega (arith, length-take (length s.path - 1) s.path), get_or-take (length s.path - 1) s.path c.0 0 l ∙ e)

      pub steps_back : IsSearch graph (stepped_back s)
      steps_back = record {
        places = is.places;
        lefts = is.lefts;
        most = is.most;
        fresh = is.fresh;
        nodes = is.nodes;
        stands = is.stands;
        opened = is.opened;
        falls = is.falls;
        joined = is.joined;
        listed = is.listed;
        numbered = is.numbered;
        counted = is.counted;
        onward = is.onward;
        back = is.back;
        met = is.met;
        waits = waits_back;
        path_rises = rises_take s.path (length s.path - 1) is.path_rises;
        path_below = below_take s.path (length s.path - 1) (length s.stack) is.path_below;
        starts_rise = is.starts_rise;
        starts_below = is.starts_below;
      }
