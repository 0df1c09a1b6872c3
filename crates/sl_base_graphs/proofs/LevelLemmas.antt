-- In an order, what is reckoned meets its own equation, and can be reckoned node by node.
use Rattle.std.proofs.Common.{◌≡◌, ℕ, zero, suc, ◌+◌, ◌<◌, ◌≤◌, ◌⊎◌, inl, inr, min, List, length, get_or, set, refl, sym, ap, subst, ◌∙◌, arith}
use Rattle.std.specs.List.{Contains}
use Rattle.std.proofs.lemmas.Bool.{cases_lt, cases_eq}
use Rattle.std.proofs.lemmas.List.{get_or-set_same, get_or-set_other, get_or_past}
use Rattle.sl_base_graphs.specs.Levels.{level, value}
use Rattle.sl_base_graphs.specs.LevelEquations.{MeetEquations, TakesSuccessors}
use Rattle.sl_base_graphs.specs.Orders.{IsOrder}
use Rattle.sl_base_graphs.specs.Reaching.{Graph, successors}

-- The values of the nodes before a place of the order are right up to a cap.
pub record AreRight {C : Type 0} (graph : Graph) (step : (ℕ → ℕ) → C → ℕ) (node : ℕ → C) (order : List ℕ) (cap : ℕ) (values : List ℕ) (i : ℕ) : Type 0 where
  pub long : length values ≡ length graph
  pub right : (j : ℕ) → j < i → get_or values (get_or order j 0) 0 ≡ min (value graph step node (get_or order j 0)) cap

module _ {C : Type 0} (graph : Graph) (step : (ℕ → ℕ) → C → ℕ) (node : ℕ → C) (takes : TakesSuccessors graph step node)
    (order : List ℕ) (is : IsOrder graph order) where
  outside_level : (k v : ℕ) → length graph ≤ v → level step node k v ≡ 0
  unfolding level
  outside_level zero v past = refl
  outside_level (suc k) v past = takes.outside v past (level step node k)

  -- the node at place i has its value from i + 1 rounds on
  settled : (bound i k : ℕ) → i < bound → i < length order → i < k → level step node (suc k) (get_or order i 0) ≡ level step node k (get_or order i 0)
  unfolding level
  settled zero i k below at deep = absurd (omega arith)
  settled (suc bound) i zero below at deep = absurd (omega arith)
  settled (suc bound) i (suc k) below at deep =
      takes.alone (get_or order i 0) (level step node (suc k)) (level step node k)
      (λ w c. agree w c (λ j before. settled bound j k (omega arith) (omega arith) (omega arith)) (cases_lt w (length graph)))
    where
      agree : (w : ℕ) → Contains (successors graph (get_or order i 0)) w → ((j : ℕ) → j < i → level step node (suc k) (get_or order j 0) ≡ level step node k (get_or order j 0))
          → (w < length graph) ⊎ (length graph ≤ w) → level step node (suc k) w ≡ level step node k w
      agree w c so (inl inside) = let s = is.behind i at w c inside in subst (λ (x : ℕ). level step node (suc k) x ≡ level step node k x) s.2 (so s.0 s.1)
      agree w c so (inr past) = outside_level (suc k) w past ∙ sym (outside_level k w past)

  pub meets_at : (i : ℕ) → i < length order → value graph step node (get_or order i 0) ≡ step (value graph step node) (node (get_or order i 0))
  unfolding level
  meets_at i at = sym (settled (suc i) i (length graph) (omega arith) at (omega (arith, is.long)))

  pub meets : (v : ℕ) → v < length graph → value graph step node v ≡ step (value graph step node) (node v)
  meets v inside = let s = is.all v inside in subst (λ (x : ℕ). value graph step node x ≡ step (value graph step node) (node x)) s.2 (meets_at s.0 s.1)

  -- ---- values up to a cap, one after another in the order

  module _ (cap : ℕ) (caps : (v : ℕ) (f g : ℕ → ℕ) → ((w : ℕ) → Contains (successors graph v) w → f w ≡ min (g w) cap) → min (step f (node v)) cap ≡ min (step g (node v)) cap) where
    pub outside : (values : List ℕ) (w : ℕ) → length values ≡ length graph → length graph ≤ w → get_or values w 0 ≡ min (value graph step node w) cap
    outside values w long past = get_or_past values w 0 (omega arith) ∙ (let e = outside_level (length graph) w past in omega arith)

    before : (values : List ℕ) (i : ℕ) → i < length order → AreRight graph step node order cap values i → (w : ℕ) → Contains (successors graph (get_or order i 0)) w → get_or values w 0 ≡ min (value graph step node w) cap
    before values i at are w c = elim (cases_lt w (length graph)) [
      | inl inside ↦ let s = is.behind i at w c inside in subst (λ (x : ℕ). get_or values x 0 ≡ min (value graph step node x) cap) s.2 (are.right s.0 s.1)
      | inr past ↦ outside values w are.long past
    ]

    reckoned : (values : List ℕ) (i : ℕ) → i < length order → AreRight graph step node order cap values i
        → min (step (λ w. get_or values w 0) (node (get_or order i 0))) cap ≡ min (value graph step node (get_or order i 0)) cap
    reckoned values i at are =
        caps (get_or order i 0) (λ w. get_or values w 0) (value graph step node) (before values i at are) ∙ ap (λ n. min n cap) (sym (meets_at i at))

    -- one node more
    pub one_right : (values : List ℕ) (i v n : ℕ) → i < length order → v ≡ get_or order i 0 → n ≡ min (step (λ w. get_or values w 0) (node v)) cap
        → length (set values v n) ≡ length values → AreRight graph step node order cap values i → AreRight graph step node order cap (set values v n) (i + 1)
    one_right values i v n at is_v is_n same are = record {
      long = same ∙ are.long;
      right = λ j below. by j below (cases_eq (get_or order j 0) v);
    }
      where
        inside : v < length values
        inside = let a = is.nodes i at in let b = are.long in omega arith

        now : n ≡ min (value graph step node v) cap
        now = is_n ∙ subst (λ (x : ℕ). min (step (λ w. get_or values w 0) (node x)) cap ≡ min (value graph step node x) cap) (sym is_v) (reckoned values i at are)

        by : (j : ℕ) → j < i + 1 → (get_or order j 0 ≡ v) ⊎ (get_or order j 0 ≡ v → ⊥) → get_or (set values v n) (get_or order j 0) 0 ≡ min (value graph step node (get_or order j 0)) cap
        by j below (inl e) = ap (λ x. get_or (set values v n) x 0) e ∙ get_or-set_same values v n 0 inside ∙ now ∙ ap (λ x. min (value graph step node x) cap) (sym e)
        by j below (inr d) = get_or-set_other values v (get_or order j 0) n 0 d ∙ are.right j (elim (cases_lt j i) [
          | inl less ↦ less
          | inr le ↦ let e : j ≡ i = omega arith in absurd (d (ap (λ k. get_or order k 0) e ∙ sym is_v))
        ])

    -- and so all are
    pub all_right : (values : List ℕ) → AreRight graph step node order cap values (length order) → (v : ℕ) → get_or values v 0 ≡ min (value graph step node v) cap
    all_right values are v = elim (cases_lt v (length graph)) [
      | inl inside ↦ let s = is.all v inside in subst (λ (x : ℕ). get_or values x 0 ≡ min (value graph step node x) cap) s.2 (are.right s.0 s.1)
      | inr past ↦ outside values v are.long past
    ]

pub meet_equations : {C : Type 0} → MeetEquations C
meet_equations graph step node takes order is v inside = meets graph step node takes order is v inside
