-- Nodes that lie above one another in a graph of which no node reaches itself are no more than there are nodes.
use Rattle.std.proofs.Common.{◌≡◌, ℕ, ◌<◌, ◌==◌, Bool, true, false, ◌||◌, List, [], ◌∷◌, length, refl, sym, subst, ◌∙◌, arith}
use Rattle.std.specs.List.{AllByRecursion, Contains, IsDistinct, list_any}
use Rattle.std.proofs.lemmas.Bool.{false≢true}
use Rattle.std.proofs.lemmas.Map.Steps.{length-le_from_distinct_below}
use Rattle.sl_base_graphs.proofs.Closure.{finds_reached}
use Rattle.sl_base_graphs.specs.Orders.{NoneReaches}
use Rattle.sl_base_graphs.specs.Reaching.{Graph, Reaches, direct, further, successors}

module _ (g : Graph) where
  -- The nodes differ, and each of them reaches the node.
  pub record AreAbove (us : List ℕ) (v : ℕ) : Type 0 where
    pub distinct : IsDistinct (λ a b. a == b) us
    pub nodes : AllByRecursion (λ u. u < length g) us
    pub reach : AllByRecursion (λ u. Reaches g u v) us

  pub none_above : (v : ℕ) → AreAbove [] v
  unfolding IsDistinct
  none_above v = record { distinct = tt; nodes = tt; reach = tt }

  one_further : {u v w : ℕ} → Reaches g u v → Contains (successors g v) w → Reaches g u w
  one_further (direct c) edge = further c (direct edge)
  one_further (further c r) edge = further c (one_further r edge)

  all_further : (us : List ℕ) (v w : ℕ) → Contains (successors g v) w → AllByRecursion (λ u. Reaches g u v) us → AllByRecursion (λ u. Reaches g u w) us
  all_further [] v w edge reach = tt
  all_further (u ∷ us) v w edge reach = (one_further reach.0 edge, all_further us v w edge reach.1)

  module _ (none : NoneReaches g) where
    differs : (u v : ℕ) → v < length g → Reaches g u v → (v == u) ≡ false
    differs u v node reach = by (v == u) refl
      where
        same : (a b : ℕ) → (a == b) ≡ true → b ≡ a
        same a b h = grind arith

        by : (b : Bool) → (v == u) ≡ b → b ≡ false
        by false is = refl
        by true is =
            let round : Reaches g v v = subst (λ (a : ℕ). Reaches g a v) (same v u is) reach in
            absurd (false≢true (sym (none v node) ∙ finds_reached g v v round))

    all_differ : (us : List ℕ) (v : ℕ) → v < length g → AllByRecursion (λ u. Reaches g u v) us → AllByRecursion (λ u. (v == u) ≡ false) us
    all_differ [] v node reach = tt
    all_differ (u ∷ us) v node reach = (differs u v node reach.0, all_differ us v node reach.1)

    -- a successor of the node has the node above it, too
    pub one_above : (us : List ℕ) (v w : ℕ) → v < length g → Contains (successors g v) w → AreAbove us v → AreAbove (v ∷ us) w
    unfolding IsDistinct
    one_above us v w node edge are = record {
      distinct = (all_differ us v node are.reach, are.distinct);
      nodes = (node, are.nodes);
      reach = (direct edge, all_further us v w edge are.reach);
    }

    member_below : (n : ℕ) (us : List ℕ) → AllByRecursion (λ u. u < n) us → (q : ℕ) → list_any (λ u. q == u) us ≡ true → q < n
    member_below n [] nodes q h = absurd (false≢true h)
    member_below n (u ∷ us) nodes q h = by (q == u) refl h (member_below n us nodes.1 q)
      where
        below : (a b : ℕ) → (a == b) ≡ true → b < n → a < n
        below a b same lt = grind arith

        by : (b : Bool) → (q == u) ≡ b → (b || list_any (λ u. q == u) us) ≡ true → (list_any (λ u. q == u) us ≡ true → q < n) → q < n
        by true is h rest = below q u is nodes.0
        by false is h rest = rest h

    -- fewer lie above a node than there are
    pub few_above : (us : List ℕ) (v : ℕ) → v < length g → AreAbove us v → length us < length g
    unfolding IsDistinct
    few_above us v node are = length-le_from_distinct_below (v ∷ us) (length g)
        (all_differ us v node are.reach, are.distinct) (member_below (length g) (v ∷ us) (node, are.nodes))
