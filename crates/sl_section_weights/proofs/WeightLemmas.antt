-- What a table weighs depends on its tables alone, up to any cap.
use Rattle.std.proofs.Common.{◌≡◌, ℕ, ◌+◌, ◌≤◌, max, min, Bool, List, [], ◌∷◌, ◌++◌, length, get_or, Option, Some, None, map, sum_by, refl, ap, ◌∙◌, sym, nat_lt, arith}
use Rattle.std.specs.List.{Contains}
use Rattle.std.specs.Prelude.{position}
use Rattle.std.proofs.lemmas.Bool.Decides.{nat_tests}
use Rattle.std.proofs.lemmas.List.{get_or_past, length-map}
use Rattle.sl_ast.specs.Trees.{Constructor}
use Rattle.sl_base_graphs.specs.LevelEquations.{TakesSuccessors}
use Rattle.sl_base_graphs.specs.Orders.{NoneReaches}
use Rattle.sl_base_graphs.specs.Reaching.{successors}
use Rattle.sl_section_resolve.specs.Macros.{Body}
use Rattle.sl_spec_rules.specs.Gathered.{gathered}
use Rattle.sl_spec_tables.specs.Amounts.{node_amount}
use Rattle.sl_spec_tables.specs.Lengths.{put_together}
use Rattle.sl_spec_tables.specs.Rows.{Row, graph, group as group_of, groups, rows, tables_in, tables_of}
use Rattle.sl_spec_tables.specs.TableRules.{amount_rules, early_rules, fault_or, first_fault, first_place, late_fault, reaching_place}
use Rattle.sl_spec_tables.specs.declared.faults.LateFault.{LateFault}
use Rattle.sl_spec_tables.specs.declared.faults.Place.{Place}
use Rattle.sl_spec.specs.declared.tables.Tables.{Tables}
use Rattle.sl_ast.specs.Unfolding.{Placed}
use Rattle.sl_spec_tables.proofs.JudgeLemmas.{none_reaches}
use Rattle.sl_spec_tables.proofs.CapLemmas.{max_keeps}
use Rattle.sl_spec_tables.proofs.StepLemmas.{Alike, all_left, all_of, all_right, sum_as, sums_alike, tables_at}
use Rattle.sl_section_weights.specs.Weights.{first_heavy, is_heavy, macro_weights, row_weight, section_weight, step, table_weight}

pub row_as : (macros : List Body) (f : ℕ → ℕ) (r : Row)
    → row_weight macros f r ≡ put_together (λ m n. m + n) (section_weight macros (macro_weights macros) r.1.1.section) (map (λ o. node_amount f o.means) r.0.operands)
row_as macros f r = sum_as f r.0.operands (section_weight macros (macro_weights macros) r.1.1.section)

module _ (macros : List Body) (cap : ℕ) (f g : ℕ → ℕ) where
  pub row_alike : (r : Row) → Alike cap f g (tables_of r.0) → min (row_weight macros f r) cap ≡ min (row_weight macros g r) cap
  row_alike r h = let e = sums_alike cap f g (tables_of r.0) h in omega arith

  together : (rs : List Row) → Alike cap f g (tables_in rs) → (a b : ℕ) → min a cap ≡ min b cap
      → min (put_together max a (map (row_weight macros f) rs)) cap ≡ min (put_together max b (map (row_weight macros g) rs)) cap
  unfolding gathered
  together [] h a b e = e
  together (r ∷ rs) h a b e =
      together rs (all_right _ (tables_of r.0) _ h) (max a (row_weight macros f r)) (max b (row_weight macros g r))
      (max_keeps cap a b (row_weight macros f r) (row_weight macros g r) e (row_alike r (all_left _ (tables_of r.0) (gathered (λ r. tables_of r.0) rs) h)))

  pub step_alike : (rs : List Row) → Alike cap f g (tables_in rs) → min (step macros f rs) cap ≡ min (step macros g rs) cap
  step_alike rs h = together rs h 0 0 refl

module _ (macros : List Body) (gs : List (List Row)) where
  at_successors : (cap v : ℕ) (f g : ℕ → ℕ) → ((w : ℕ) → Contains (successors (graph gs) v) w → min (f w) cap ≡ min (g w) cap)
      → min (step macros f (group_of gs v)) cap ≡ min (step macros g (group_of gs v)) cap
  at_successors cap v f g each = step_alike macros cap f g (group_of gs v)
      (all_of (λ u. min (f u) cap ≡ min (g u) cap) (tables_in (group_of gs v)) (λ w c. each w (rw (tables_at gs v) c)))

  pub caps : (cap v : ℕ) (f g : ℕ → ℕ) → ((w : ℕ) → Contains (successors (graph gs) v) w → f w ≡ min (g w) cap)
      → min (step macros f (group_of gs v)) cap ≡ min (step macros g (group_of gs v)) cap
  caps cap v f g each = at_successors cap v f g (λ w c. let e = each w c in omega arith)

  pub takes : TakesSuccessors (graph gs) (step macros) (group_of gs)
  takes = record {
    alone = λ v f g each.
        let a = step macros f (group_of gs v) in
        let b = step macros g (group_of gs v) in
        let e = at_successors (a + b) v f g (λ w c. ap (λ n. min n (a + b)) (each w c)) in
        omega arith;
    outside = λ v past f. ap (step macros f) (get_or_past gs v [] (omega (arith, length-map gs tables_in)));
  }

-- weights that are known up to the cap tell what is too heavy
pub heavy_alike : (m n : ℕ) → min m 65537 ≡ min n 65537 → nat_lt 65536 (min m 65537) ≡ nat_lt 65536 n
heavy_alike m n e = grind (arith, nat_tests)

-- ---- the first constructor that is too heavy

none_behind_by : (rule : ℕ) (place : Option Place) (xs ys : List (ℕ × Option Place)) → (first_fault (xs ++ ys) ≡ None → first_fault ys ≡ None)
    → fault_or rule place (first_fault (xs ++ ys)) ≡ None → first_fault ys ≡ None
none_behind_by rule (Some p) xs ys rest h = absurd (let e : ⊥ = cc in e)
none_behind_by rule None xs ys rest h = rest h

none_behind : (xs ys : List (ℕ × Option Place)) → first_fault (xs ++ ys) ≡ None → first_fault ys ≡ None
none_behind [] ys h = h
none_behind (x ∷ xs) ys h = none_behind_by x.0 x.1 xs ys (none_behind xs ys) h

nowhere : (rule : ℕ) (place : Option Place) (other : Option LateFault) → fault_or rule place other ≡ None → place ≡ None
nowhere rule (Some p) other h = absurd (let e : ⊥ = cc in e)
nowhere rule None other h = refl

-- where rules 32 to 37 hold, no table reaches itself
pub none_reach : (t : Tables) (cs : List (Placed Constructor)) → late_fault t cs ≡ None → NoneReaches (graph (groups (length t.tables) (rows t cs)))
unfolding late_fault
none_reach t cs h =
    let rs = rows t cs in
    let gs = groups (length t.tables) rs in
    none_reaches (length t.tables) gs rs refl
    (nowhere 34 (reaching_place gs rs) (first_fault (amount_rules t gs rs)) (none_behind (early_rules t rs) ((34, reaching_place gs rs) ∷ amount_rules t gs rs) h))

module _ (macros : List Body) (gs : List (List Row)) where
  abbrev pub heavy_by : List ℕ → Row → Bool
  heavy_by values r = nat_lt 65536 (min (row_weight macros (λ u. get_or values u 0) r) 65537)

  pub heavy_as : (values : List ℕ) (rs : List Row) → ((v : ℕ) → get_or values v 0 ≡ min (table_weight macros gs v) 65537)
      → position (heavy_by values) rs ≡ position (is_heavy macros gs) rs
  heavy_as values rs right = λ i. position (λ r. tests r i) rs
    where
      tests : (r : Row) → heavy_by values r ≡ is_heavy macros gs r
      tests r = heavy_alike (row_weight macros (λ u. get_or values u 0) r) (row_weight macros (table_weight macros gs) r)
          (row_alike macros 65537 (λ u. get_or values u 0) (table_weight macros gs) r
          (all_of (λ u. min (get_or values u 0) 65537 ≡ min (table_weight macros gs u) 65537) (tables_of r.0) (λ u c. let e = right u in omega arith)))

pub first_as : (t : Tables) (macros : List Body) (cs : List (Placed Constructor)) (rs : List Row) (gs : List (List Row)) → rs ≡ rows t cs → gs ≡ groups (length t.tables) rs
    → position (is_heavy macros gs) rs ≡ first_heavy t macros cs
unfolding first_heavy
first_as t macros cs rs gs is grouped =
    ap (λ x. position (is_heavy macros x) rs) grouped ∙ ap (λ x. position (is_heavy macros (groups (length t.tables) x)) x) is
