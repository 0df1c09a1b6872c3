-- Tables by their heights: each stands behind those that it names.
use Rattle.std.proofs.Common.{◌≡◌, ◌≢◌, ℕ, zero, suc, ◌+◌, ◌<◌, ◌≤◌, ◌==◌, max, Bool, true, false, cond, length, arith, List, [], ◌∷◌, ◌++◌, get_or, map, set, Option, Some, None, refl, sym, ap, ◌∙◌, subst}
use Rattle.std.specs.List.{AllByRecursion, filter, flat_map, range_with_len}
use Rattle.std.specs.Prelude.{slice_get}
use Rattle.sl_ast.specs.Trees.{Constructor}
use Rattle.sl_ast.specs.Unfolding.{Placed}
use Rattle.sl_base_graphs.specs.Heights.{AreHeights, above, by_height}
use Rattle.sl_base_graphs.specs.Reaching.{Graph, successors}
use Rattle.sl_spec_rules.specs.Gathered.{gathered}
use Rattle.sl_shape.specs.Tables.{constructors_of, named_by, numbers, pattern_at, table_graph}
use Rattle.sl_shape.proofs.CarryLemmas.{all_each, all_left, all_right}
use Rattle.sl_spec.specs.Tables.{Table}
use Rattle.sl_spec.specs.declared.tables.Tables.{Tables}

-- ---- sorted lists

module _ (h : ℕ → ℕ) where
  -- No node is lower than one before it.
  abbrev pub IsSorted : List ℕ → Type 0
  IsSorted [] = Unit {0}
  IsSorted (x ∷ xs) = AllByRecursion (λ y. h x ≤ h y) xs × IsSorted xs

  all_level : (n : ℕ) (nodes : List ℕ) → AllByRecursion (λ v. h v ≡ n) (filter (λ v. h v == n) nodes)
  all_level n [] = tt
  all_level n (v ∷ nodes) = by (h v == n) refl (all_level n nodes)
    where
      by : (b : Bool) → (h v == n) ≡ b → AllByRecursion (λ v. h v ≡ n) (filter (λ v. h v == n) nodes)
          → AllByRecursion (λ v. h v ≡ n) (cond b (v ∷ filter (λ v. h v == n) nodes) (filter (λ v. h v == n) nodes))
      by true e rest = (grind arith, rest)
      by false e rest = rest

  all_both : (P : ℕ → Type 0) (xs ys : List ℕ) → AllByRecursion P xs → AllByRecursion P ys → AllByRecursion P (xs ++ ys)
  all_both P [] ys a b = b
  all_both P (x ∷ xs) ys a b = (a.0, all_both P xs ys a.1 b)

  sorted_both : (n : ℕ) (xs ys : List ℕ) → AllByRecursion (λ v. h v ≡ n) xs → AllByRecursion (λ v. n ≤ h v) ys → IsSorted ys → IsSorted (xs ++ ys)
  sorted_both n [] ys a b s = s
  sorted_both n (x ∷ xs) ys a b s = (
    all_both (λ y. h x ≤ h y) xs ys
        (all_each (λ v. h v ≡ n) (λ y. h x ≤ h y) (λ y e. let d = a.0 in omega (arith, e, d)) xs a.1)
        (all_each (λ v. n ≤ h v) (λ y. h x ≤ h y) (λ y e. let d = a.0 in omega (arith, e, d)) ys b),
    sorted_both n xs ys a.1 b s,
  )

  levels : (nodes : List ℕ) (k n : ℕ) → AllByRecursion (λ v. n ≤ h v) (flat_map (λ m. filter (λ v. h v == m) nodes) (range_with_len n k))
      × IsSorted (flat_map (λ m. filter (λ v. h v == m) nodes) (range_with_len n k))
  levels nodes zero n = (tt, tt)
  levels nodes (suc k) n =
      let rest = levels nodes k (n + 1) in
      let here = all_level n nodes in
      let behind = all_each (λ v. n + 1 ≤ h v) (λ v. n ≤ h v) (λ v e. omega (arith, e)) _ rest.0 in
      (all_both (λ v. n ≤ h v) _ _ (all_each (λ v. h v ≡ n) (λ v. n ≤ h v) (λ v e. omega (arith, e)) _ here) behind, sorted_both n _ _ here behind rest.1)

  pub sorted : (nodes : List ℕ) → IsSorted (by_height h nodes)
  unfolding by_height
  sorted nodes = (levels nodes (above h nodes) 0).1

  pub all_before : (done : List ℕ) (v : ℕ) (rest : List ℕ) → IsSorted (done ++ v ∷ rest) → AllByRecursion (λ u. h u ≤ h v) done
  all_before [] v rest s = tt
  all_before (u ∷ done) v rest s = ((all_right (λ y. h u ≤ h y) done (v ∷ rest) s.0).0, all_before done v rest s.1)

  -- ---- nodes lie below what names them

  pub all_below : (ws : List ℕ) → AllByRecursion (λ w. h w < above h ws) ws
  all_below [] = tt
  all_below (w ∷ ws) = (omega arith, all_each (λ v. h v < above h ws) (λ v. h v < max (1 + h w) (above h ws)) (λ v e. omega (arith, e)) ws (all_below ws))

  gathered_each : (P : ℕ → Type 0) (g : ℕ → List ℕ) (is : List ℕ) → AllByRecursion P (gathered g is) → AllByRecursion (λ i. AllByRecursion P (g i)) is
  unfolding gathered
  gathered_each P g [] all = tt
  gathered_each P g (i ∷ is) all = (all_left P (g i) (gathered g is) all, gathered_each P g is (all_right P (g i) (gathered g is) all))

successors_are : (f : Table → List ℕ) (ts : List Table) (u : ℕ) (b : Table) → slice_get ts u ≡ Some b → (get_or (map f ts) u [] ≡ f b) × (u < length (map f ts))
successors_are f [] u b e = absurd cc
successors_are f (x ∷ ts) zero b e = (ap f (ap (λ (o : Option Table). elim o [ Some y ↦ y | None ↦ x ]) e), omega arith)
successors_are f (x ∷ ts) (suc u) b e = let r = successors_are f ts u b e in (r.0, omega (arith, r.1))

module _ (t : Tables) (cs : List (Placed Constructor)) (heights : List ℕ) (are : AreHeights (table_graph t cs) heights) where
  abbrev pub height : ℕ → ℕ
  height v = get_or heights v 0

  -- The tables that the constructors of a table name lie below it.
  pub named_below : (u : ℕ) → AllByRecursion (λ i. AllByRecursion (λ w. height w < height u) (named_by t (pattern_at cs i))) (constructors_of t u)
  named_below u = by (slice_get t.tables u) refl
    where
      by : (o : Option Table) → slice_get t.tables u ≡ o → AllByRecursion (λ i. AllByRecursion (λ w. height w < height u) (named_by t (pattern_at cs i))) (numbers o)
      by None e = tt
      by (Some b) e =
          let g : ℕ → List ℕ = λ i. named_by t (pattern_at cs i) in
          let s = successors_are (λ b. gathered g b.constructors) t.tables u b e in
          let h : height u ≡ above height (gathered g b.constructors) = are.each u s.1 ∙ ap (above height) s.0 in
          gathered_each height (λ w. height w < height u) g b.constructors
          (subst (λ n. AllByRecursion (λ w. height w < n) (gathered g b.constructors)) (sym h) (all_below height (gathered g b.constructors)))

-- ---- lists in which one place is set

pub set_other : {X : Type 0} (xs : List X) (v w : ℕ) (x : X) → w ≢ v → slice_get (set xs v x) w ≡ slice_get xs w
set_other [] v w x apart = refl
set_other (y ∷ xs) zero zero x apart = absurd (apart refl)
set_other (y ∷ xs) zero (suc w) x apart = refl
set_other (y ∷ xs) (suc v) zero x apart = refl
set_other (y ∷ xs) (suc v) (suc w) x apart = set_other xs v w x (λ e. apart (ap suc e))

pub set_here : {X : Type 0} (xs : List X) (v : ℕ) (x : X) → v < length xs → slice_get (set xs v x) v ≡ Some x
set_here [] v x below = absurd (omega arith)
set_here (y ∷ xs) zero x below = refl
set_here (y ∷ xs) (suc v) x below = set_here xs v x (omega arith)

-- What holds of all tables that a table names holds of those that each of its constructors names.
pub named_each : (t : Tables) (cs : List (Placed Constructor)) (graph : Graph) → graph ≡ table_graph t cs → (P : ℕ → Type 0) (u : ℕ) (b : Table) → slice_get t.tables u ≡ Some b
    → AllByRecursion P (successors graph u) → AllByRecursion (λ i. AllByRecursion P (named_by t (pattern_at cs i))) b.constructors
named_each t cs graph are P u b is all =
    let g : ℕ → List ℕ = λ i. named_by t (pattern_at cs i) in
    let named = ap (λ (graph : Graph). successors graph u) are ∙ (successors_are (λ b. gathered g b.constructors) t.tables u b is).0 in
    gathered_each (λ v. v) P g b.constructors (subst (λ (l : List ℕ). AllByRecursion P l) named all)
