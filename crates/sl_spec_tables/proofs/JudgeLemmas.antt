-- The first broken rule.
use Rattle.std.proofs.Common.{◌≡◌, ℕ, zero, suc, ◌<◌, ◌≤◌, ◌==◌, ◌&&◌, inl, inr, min, Bool, true, false, cond, nat_lt, List, [], ◌∷◌, ◌++◌, length, get_or, map, Option, Some, None, refl, sym, ap, subst, ◌∙◌, arith}
use Rattle.std.specs.Prelude.{find, option_map}
use Rattle.std.specs.List.{AllByRecursion, filter}
use Rattle.std.proofs.lemmas.Bool.{cases_lt}
use Rattle.std.proofs.lemmas.Bool.Decides.{nat_tests}
use Rattle.std.proofs.lemmas.List.{get_or_past, length-map}
use Rattle.sl_ast.specs.Trees.{Constructor}
use Rattle.sl_ast.specs.Unfolding.{Placed}
use Rattle.sl_base_graphs.proofs.Closure.{is_reached, some_successor}
use Rattle.sl_base_graphs.proofs.LevelLemmas.{meet_equations}
use Rattle.sl_base_graphs.specs.Levels.{level}
use Rattle.sl_base_graphs.specs.Orders.{AreTold, IsOrder, NoneReaches}
use Rattle.sl_base_graphs.specs.Reaching.{Graph, Reaches, reaches_itself, successors}
use Rattle.sl_spec_rules.specs.Gathered.{gathered}
use Rattle.sl_spec.specs.declared.tables.Tables.{Tables}
use Rattle.sl_spec_tables.specs.Lengths.{least, put_together, row_bytes, step, table_amount}
use Rattle.sl_spec_tables.specs.Rows.{Row, graph, group, groups, is_of, rows, tables_in, tables_of}
use Rattle.sl_spec_tables.specs.TableRules.{amount_rules, broken_at, early_rules, late_fault, late_rules, empty_place, fault_or, first_fault, first_place, has_few_nodes, is_short, place_of, reaching_place}
use Rattle.sl_spec_tables.specs.declared.faults.LateFault.{LateFault}
use Rattle.sl_spec_tables.specs.declared.faults.Place.{Place}
use Rattle.sl_spec_tables.specs.declared.quantities.Quantity.TheVariants.{Least, Greatest, Nodes}
use Rattle.sl_spec_tables.proofs.RowLemmas.{group_at, groups_length}
use Rattle.sl_spec_tables.proofs.StepLemmas.{amount_alike, all_of, takes}
use Rattle.sl_base_graphs.proofs.Seen.{at_map}

pub fault_some : (rule : ℕ) (place : Option Place) (p : Place) (other : Option LateFault) → place ≡ Some p → Some (record { rule = rule; place = p }) ≡ fault_or rule place other
fault_some rule place p other is = ap (λ o. fault_or rule o other) (sym is)

pub fault_none : (rule : ℕ) (place : Option Place) (other : Option LateFault) → place ≡ None → other ≡ fault_or rule place other
fault_none rule place other is = ap (λ o. fault_or rule o other) (sym is)

some_by : (rule : ℕ) (place : Option Place) (xs ys : List (ℕ × Option Place)) (f : LateFault) → (first_fault xs ≡ Some f → first_fault (xs ++ ys) ≡ Some f)
    → fault_or rule place (first_fault xs) ≡ Some f → fault_or rule place (first_fault (xs ++ ys)) ≡ Some f
some_by rule (Some p) xs ys f rest h = h
some_by rule None xs ys f rest h = rest h

some_first : (xs ys : List (ℕ × Option Place)) (f : LateFault) → first_fault xs ≡ Some f → first_fault (xs ++ ys) ≡ Some f
some_first [] ys f h = absurd (cc)
some_first (x ∷ xs) ys f h = some_by x.0 x.1 xs ys f (some_first xs ys f) h

none_first_by : (rule : ℕ) (place : Option Place) (xs ys : List (ℕ × Option Place)) → (first_fault xs ≡ None → first_fault (xs ++ ys) ≡ first_fault ys)
    → fault_or rule place (first_fault xs) ≡ None → fault_or rule place (first_fault (xs ++ ys)) ≡ first_fault ys
none_first_by rule (Some p) xs ys rest h = absurd (cc)
none_first_by rule None xs ys rest h = rest h

none_first : (xs ys : List (ℕ × Option Place)) → first_fault xs ≡ None → first_fault (xs ++ ys) ≡ first_fault ys
none_first [] ys h = refl
none_first (x ∷ xs) ys h = none_first_by x.0 x.1 xs ys (none_first xs ys) h

late_as : (t : Tables) (cs : List (Placed Constructor)) (rs : List Row) → rs ≡ rows t cs → first_fault (late_rules t (groups (length t.tables) rs) rs) ≡ late_fault t cs
unfolding late_fault
late_as t cs rs is = ap (λ x. first_fault (late_rules t (groups (length t.tables) x) x)) is

pub ends_early : (t : Tables) (cs : List (Placed Constructor)) (rs : List Row) (f : LateFault) → rs ≡ rows t cs → first_fault (early_rules t rs) ≡ Some f → Some f ≡ late_fault t cs
ends_early t cs rs f is early = sym (some_first (early_rules t rs) ((34, reaching_place (groups (length t.tables) rs) rs) ∷ amount_rules t (groups (length t.tables) rs) rs) f early) ∙ late_as t cs rs is

pub ends_late : (t : Tables) (cs : List (Placed Constructor)) (rs : List Row) (gs : List (List Row)) (fault : Option LateFault) → rs ≡ rows t cs → gs ≡ groups (length t.tables) rs
    → first_fault (early_rules t rs) ≡ None → fault ≡ first_fault ((34, reaching_place gs rs) ∷ amount_rules t gs rs) → fault ≡ late_fault t cs
ends_late t cs rs gs fault is grouped early rest =
    rest ∙ ap (λ x. first_fault ((34, reaching_place x rs) ∷ amount_rules t x rs)) grouped ∙ sym (none_first (early_rules t rs) ((34, reaching_place (groups (length t.tables) rs) rs) ∷ amount_rules t (groups (length t.tables) rs) rs) early) ∙ late_as t cs rs is

-- ---- amounts that are known up to a cap

pub few_nodes : (t : Tables) (gs : List (List Row)) (n : ℕ) → n ≡ min (table_amount Nodes t gs 0) 1025 → has_few_nodes t gs ≡ nat_lt n 1025
unfolding has_few_nodes
few_nodes t gs n is = by (table_amount Nodes t gs 0) is
  where
    by : (m : ℕ) → n ≡ min m 1025 → nat_lt m 1025 ≡ nat_lt n 1025
    by m is = grind (arith, nat_tests)

pub short : (t : Tables) (gs : List (List Row)) (n : ℕ) → n ≡ min (table_amount Greatest t gs 0) 1025 → is_short t gs ≡ nat_lt n 256
unfolding is_short
short t gs n is = by (table_amount Greatest t gs 0) is
  where
    by : (m : ℕ) → n ≡ min m 1025 → nat_lt m 256 ≡ nat_lt n 256
    by m is = grind (arith, nat_tests)

same_test : (m n : ℕ) → min m 1025 ≡ min n 1025 → (min m 1025 == 0) ≡ (n == 0)
same_test m n h = grind (arith, nat_tests)

-- ---- tables that reach themselves

outside : (g : Graph) (v : ℕ) → length g ≤ v → (b : Bool) → reaches_itself g v ≡ b → b ≡ false
outside g v past false is = refl
outside g v past true is = let s = some_successor g (is_reached g (length g) v v is) in let e = ap length (get_or_past g v [] past) in absurd (omega arith)

pub told_of_all : (g : Graph) (told : List Bool) → AreTold g told → (v : ℕ) → get_or told v false ≡ reaches_itself g v
told_of_all g told are v = elim (cases_lt v (length g)) [
  | inl inside ↦ are.right v inside
  | inr past ↦ get_or_past told v false (let l = are.long in omega arith) ∙ sym (outside g v past (reaches_itself g v) refl)
]

pub reaching_as : (gs : List (List Row)) (rs : List Row) (told : List Bool) → AreTold (graph gs) told → first_place (λ r. get_or told r.0.table false) rs ≡ reaching_place gs rs
unfolding reaching_place
reaching_as gs rs told are = λ i. first_place (λ r. told_of_all (graph gs) told are r.0.table i) rs

none_by : (test : Row → Bool) (r : Row) (rs : List Row) (b : Bool) → test r ≡ b → option_map place_of (cond b (Some r) (find test rs)) ≡ None → (b ≡ false) × (first_place test rs ≡ None)
none_by test r rs true is h = absurd (cc)
none_by test r rs false is h = (refl, h)

-- where the first is nowhere, none passes
none_passes : (test : Row → Bool) (rs : List Row) → first_place test rs ≡ None → AllByRecursion (λ r. test r ≡ false) rs
none_passes test [] h = tt
none_passes test (r ∷ rs) h = let n = none_by test r rs (test r) refl h in (n.0, none_passes test rs n.1)

some_row : (rs : List Row) → 0 < length (tables_in rs) → 0 < length rs
unfolding gathered
some_row [] h = h
some_row (r ∷ rs) h = omega arith

successors_at : (gs : List (List Row)) (v : ℕ) → successors (graph gs) v ≡ tables_in (group gs v)
unfolding gathered
successors_at gs v = at_map tables_in gs v []

-- a table with a constructor is the table of one
group_by : (g : Graph) (v : ℕ) (r : Row) (rs : List Row) (b : Bool) → is_of v r ≡ b → reaches_itself g r.0.table ≡ false
    → (0 < length (filter (is_of v) rs) → reaches_itself g v ≡ false) → 0 < length (cond b (r ∷ filter (is_of v) rs) (filter (is_of v) rs)) → reaches_itself g v ≡ false
group_by g v r rs true is h rest some = let e : r.0.table ≡ v = same r.0.table v is in subst (λ (x : ℕ). reaches_itself g x ≡ false) e h
  where
    same : (a b : ℕ) → (a == b) ≡ true → a ≡ b
    same a b h = grind arith
group_by g v r rs false is h rest some = rest some

of_group : (g : Graph) (v : ℕ) (rs : List Row) → AllByRecursion (λ r. reaches_itself g r.0.table ≡ false) rs → 0 < length (filter (is_of v) rs) → reaches_itself g v ≡ false
of_group g v [] h some = absurd (omega arith)
of_group g v (r ∷ rs) h some = group_by g v r rs (is_of v r) refl h.0 (λ s. of_group g v rs h.1 s) some

reaching_by : (g : Graph) (v : ℕ) → (Reaches g v v → reaches_itself g v ≡ false) → (b : Bool) → reaches_itself g v ≡ b → b ≡ false
reaching_by g v not false is = refl
reaching_by g v not true is = let n = not (is_reached g (length g) v v is) in absurd (cc)

pub none_reaches : (n : ℕ) (gs : List (List Row)) (rs : List Row) → gs ≡ groups n rs → reaching_place gs rs ≡ None → NoneReaches (graph gs)
unfolding reaching_place
none_reaches n gs rs is nowhere v inside =
    reaching_by (graph gs) v (λ r. of_group (graph gs) v rs (none_passes (λ r. reaches_itself (graph gs) r.0.table) rs nowhere) (has_row (some_successor (graph gs) r)))
    (reaches_itself (graph gs) v) refl
  where
    below : v < n
    below = omega (arith, length-map gs tables_in, ap length is, groups_length n rs)

    has_row : 0 < length (successors (graph gs) v) → 0 < length (filter (is_of v) rs)
    has_row some =
        let e : group gs v ≡ filter (is_of v) rs = ap (λ x. group x v) is ∙ group_at n v rs below in
        subst (λ (l : List Row). 0 < length l) e (some_row (group gs v) (subst (λ (l : List ℕ). 0 < length l) (successors_at gs v) some))

-- ---- what the program finds

pub fits : (holds : Bool) (n k : ℕ) (place : Option Place) → holds ≡ nat_lt n k → n < k → None ≡ broken_at holds place
fits holds n k place is below = ap (λ b. broken_at b place) (let e : true ≡ nat_lt n k = grind (arith, nat_tests) in e ∙ sym is)

pub exceeds : (holds : Bool) (n k : ℕ) (place : Option Place) → holds ≡ nat_lt n k → k ≤ n → place ≡ broken_at holds place
exceeds holds n k place is past = ap (λ b. broken_at b place) (let e : false ≡ nat_lt n k = grind (arith, nat_tests) in e ∙ sym is)

pub empty_as : (t : Tables) (gs : List (List Row)) (rs : List Row) (values : List ℕ) → ((v : ℕ) → get_or values v 0 ≡ min (table_amount Least t gs v) 1025)
    → first_place (λ r. is_of 0 r && (min (row_bytes t (λ u. get_or values u 0) r) 1025 == 0)) rs ≡ empty_place t gs rs
unfolding empty_place
empty_as t gs rs values right = λ i. first_place (λ r. is_of 0 r && tests r i) rs
  where
    tests : (r : Row) → (min (row_bytes t (λ u. get_or values u 0) r) 1025 == 0) ≡ (row_bytes t (table_amount Least t gs) r == 0)
    tests r = same_test (row_bytes t (λ u. get_or values u 0) r) (row_bytes t (table_amount Least t gs) r)
        (amount_alike 1025 t (λ u. get_or values u 0) (table_amount Least t gs) Least r
        (all_of (λ u. min (get_or values u 0) 1025 ≡ min (table_amount Least t gs u) 1025) (tables_of r.0) (λ u c. let e = right u in omega arith)))

-- ---- where the least number of bytes isn't 0

together_some : (m : ℕ) (ns : List ℕ) → 0 < put_together min m ns → (0 < m) × AllByRecursion (λ n. 0 < n) ns
together_some m [] h = (h, tt)
together_some m (n ∷ ns) h =
    let rest = together_some (min m n) ns h in
    let both : 0 < min m n = rest.0 in
    (omega arith, (omega arith, rest.1))

least_some : (ns : List ℕ) → 0 < least ns → AllByRecursion (λ n. 0 < n) ns
least_some [] h = tt
least_some (n ∷ ns) h = together_some n ns h

none_here : (t : Tables) (f : ℕ → ℕ) (rs : List Row) → AllByRecursion (λ n. 0 < n) (map (row_bytes t f) (filter (is_of 0) rs))
    → None ≡ first_place (λ r. is_of 0 r && (row_bytes t f r == 0)) rs
none_here t f [] h = refl
none_here t f (r ∷ rs) h = by (is_of 0 r) h (λ k. none_here t f rs k)
  where
    not_zero : (n : ℕ) → 0 < n → (n == 0) ≡ false
    not_zero n h = grind (arith, nat_tests)

    by : (b : Bool) → AllByRecursion (λ n. 0 < n) (map (row_bytes t f) (cond b (r ∷ filter (is_of 0) rs) (filter (is_of 0) rs)))
        → (AllByRecursion (λ n. 0 < n) (map (row_bytes t f) (filter (is_of 0) rs)) → None ≡ first_place (λ r. is_of 0 r && (row_bytes t f r == 0)) rs)
        → None ≡ option_map place_of (cond (b && (row_bytes t f r == 0)) (Some r) (find (λ r. is_of 0 r && (row_bytes t f r == 0)) rs))
    by true h rest =
        rest h.1
        ∙ ap (λ (b : Bool). option_map place_of (cond b (Some r) (find (λ r. is_of 0 r && (row_bytes t f r == 0)) rs))) (sym (not_zero (row_bytes t f r) h.0))
    by false h rest = rest h

no_tables : (t : Tables) (gs : List (List Row)) → length (graph gs) ≡ 0 → table_amount Least t gs 0 ≡ 0
unfolding level
no_tables t gs is = ap (λ k. level (step Least t) (group gs) k 0) is

pub none_empty : (t : Tables) (gs : List (List Row)) (rs : List Row) (order : List ℕ) (n : ℕ) → gs ≡ groups n rs → IsOrder (graph gs) order
    → 0 < table_amount Least t gs 0 → None ≡ empty_place t gs rs
unfolding empty_place
none_empty t gs rs order n grouped is_order some =
    none_here t least_of rs (subst (λ (l : List Row). AllByRecursion (λ k. 0 < k) (map (row_bytes t least_of) l)) of_group_0 (least_some (map (row_bytes t least_of) (group gs 0)) here))
  where
    least_of : ℕ → ℕ
    least_of = table_amount Least t gs

    inside : (k : ℕ) → length (graph gs) ≡ k → 0 < k
    inside zero is = let e = no_tables t gs is in absurd (omega arith)
    inside (suc k) is = omega arith

    below : 0 < length (graph gs)
    below = inside (length (graph gs)) refl

    of_group_0 : group gs 0 ≡ filter (is_of 0) rs
    of_group_0 = ap (λ x. group x 0) grouped ∙ group_at n 0 rs (omega (arith, below, length-map gs tables_in, ap length grouped, groups_length n rs))

    here : 0 < least (map (row_bytes t least_of) (group gs 0))
    here = subst (λ k. 0 < k) (meet_equations (graph gs) (step Least t) (group gs) (takes Least t gs) order is_order 0 below) some
