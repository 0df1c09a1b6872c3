-- Heights, node after node in an order.
use Rattle.std.proofs.Common.{◌≡◌, ℕ, zero, suc, ◌+◌, ◌<◌, ◌≤◌, max, ◌⊎◌, inl, inr, Bool, true, false, List, [], ◌∷◌, length, get_or, set, refl, sym, ap, ◌∙◌, subst, arith}
use Rattle.std.specs.List.{Contains}
use Rattle.std.specs.Prelude.{nat_lt}
use Rattle.std.proofs.lemmas.Bool.{cases_eq}
use Rattle.std.proofs.lemmas.List.{get_or-set_other, get_or-set_same, get_or_past}
use Rattle.sl_base_graphs.specs.Heights.{AreHeights, above}
use Rattle.sl_base_graphs.specs.Levels.{level, value}
use Rattle.sl_base_graphs.specs.LevelEquations.{TakesSuccessors}
use Rattle.sl_base_graphs.specs.Orders.{IsOrder}
use Rattle.sl_base_graphs.specs.Reaching.{Graph, successors}
use Rattle.sl_base_graphs.proofs.LevelLemmas.{meet_equations}

-- ---- the greatest of some nodes

pub below_or_past : (a b : ℕ) → (a < b) ⊎ (b ≤ a)
below_or_past a b = split (nat_lt a b) refl
  where
    split : (t : Bool) → nat_lt a b ≡ t → (a < b) ⊎ (b ≤ a)
    split true e = inl (grind arith)
    split false e = inr (grind arith)

-- heights that are equal at each node give the same
pub above_same : (f g : ℕ → ℕ) (ws : List ℕ) → ((w : ℕ) → Contains ws w → f w ≡ g w) → above f ws ≡ above g ws
above_same f g [] each = refl
above_same f g (w ∷ ws) each =
    let here = each w (first w ws) in
    let rest = above_same f g ws (λ v h. each v (further v w ws h)) in
    λ k. max (1 + here k) (rest k)
  where
    first : (w : ℕ) (ws : List ℕ) → Contains (w ∷ ws) w
    first w ws = (0, omega arith, refl)

    further : (v w : ℕ) (ws : List ℕ) → Contains ws v → Contains (w ∷ ws) v
    further v w ws h = (suc h.0, omega (arith, h.1), h.2)

-- ---- the order

module _ (graph : Graph) where
  abbrev height : ℕ → ℕ
  height = value graph above (successors graph)

  takes : TakesSuccessors graph above (successors graph)
  takes = record {
    alone = λ v f g each. above_same f g (successors graph v) each;
    outside = λ v past f. ap (above f) (get_or_past graph v [] past);
  }

  -- The first nodes of the order have their heights.
  pub record AreRight (order heights : List ℕ) (i : ℕ) : Type 0 where
    pub each : (j : ℕ) → j < i → get_or heights (get_or order j 0) 0 ≡ height (get_or order j 0)

  pub none_right : (order heights : List ℕ) → AreRight order heights 0
  none_right order heights = record { each = λ j below. absurd (omega arith) }

  pub rounds_zero : (k w : ℕ) → length graph ≤ w → level above (successors graph) k w ≡ 0
  unfolding level
  rounds_zero zero w past = refl
  rounds_zero (suc k) w past = takes.outside w past (level above (successors graph) k)

  outside_zero : (w : ℕ) → length graph ≤ w → height w ≡ 0
  outside_zero w past = rounds_zero (length graph) w past

  -- heights that are right at the nodes are right at each number
  at_any : (heights : List ℕ) (w : ℕ) → length heights ≡ length graph → (w < length graph → get_or heights w 0 ≡ height w) → get_or heights w 0 ≡ height w
  at_any heights w long so = elim (below_or_past w (length graph)) [
    | inl below ↦ so below
    | inr past ↦ get_or_past heights w 0 (omega arith) ∙ sym (outside_zero w past)
  ]

  set_right : (order heights : List ℕ) (i v : ℕ) → IsOrder graph order → i < length order → v ≡ get_or order i 0 → length heights ≡ length graph → AreRight order heights i
      → above (λ w. get_or heights w 0) (successors graph v) ≡ height v
  set_right order heights i v is below here long so =
      above_same (λ w. get_or heights w 0) height (successors graph v) (λ w has. at_any heights w long (λ node.
      let before = is.behind i below w (subst (λ u. Contains (successors graph u) w) here has) node in
      subst (λ u. get_or heights u 0 ≡ height u) before.2 (so.each before.0 before.1)))
      ∙ sym (meet_equations graph above (successors graph) takes order is v (let n = is.nodes i below in omega arith))

  pub one_right : (order heights new : List ℕ) (i v : ℕ) → IsOrder graph order → i < length order → v ≡ get_or order i 0 → length heights ≡ length graph
      → new ≡ set heights v (above (λ w. get_or heights w 0) (successors graph v)) → AreRight order heights i → AreRight order new (i + 1)
  one_right order heights new i v is below here long pushed so = record {
    each = λ j less.
        let u = get_or order j 0 in
        let set_value = above (λ w. get_or heights w 0) (successors graph v) in
        let node : v < length heights = (let n = is.nodes i below in omega arith) in
        ap (λ (l : List ℕ). get_or l u 0) pushed ∙ elim (cases_eq u v) [
          | inl same ↦
              ap (λ x. get_or (set heights v set_value) x 0) same ∙ get_or-set_same heights v set_value 0 node
              ∙ set_right order heights i v is below here long so ∙ ap height (sym same)
          | inr other ↦
              get_or-set_other heights v u set_value 0 other
              ∙ so.each j (before j less (λ e. other (ap (λ k. get_or order k 0) e ∙ sym here)))
        ];
  }
    where
      before : (j : ℕ) → j < i + 1 → (j ≡ i → ⊥) → j < i
      before j less other = omega arith

  pub all_right : (order heights : List ℕ) (i : ℕ) → IsOrder graph order → length heights ≡ length graph → length order ≤ i → AreRight order heights i → AreHeights graph heights
  all_right order heights i is long end so = record {
    counted = long;
    each = λ v below.
        right v ∙ meet_equations graph above (successors graph) takes order is v below
        ∙ sym (above_same (λ w. get_or heights w 0) height (successors graph v) (λ w has. right w));
  }
    where
      right : (w : ℕ) → get_or heights w 0 ≡ height w
      right w = at_any heights w long (λ node.
          let there = is.all w node in
          subst (λ u. get_or heights u 0 ≡ height u) there.2 (so.each there.0 (let b = there.1 in omega arith)))
