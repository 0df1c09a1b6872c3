-- The rules bound the nodes of decoded trees, and what their sections weigh.
use Rattle.std.proofs.Common.{◌≡◌, ℕ, zero, suc, ◌+◌, ◌<◌, ◌≤◌, ◌==◌, Bool, true, false, not, cond, List, [], ◌∷◌, ◌++◌, length, map, max, Option, Some, None, sum_by, refl, ap, ◌∙◌, subst, arith}
use Rattle.std.specs.Prelude.{find, if◌then◌else◌, nat_lt, option_map, position, slice_get}
use Rattle.std.specs.List.{filter, position_or_len}
use Rattle.std.proofs.lemmas.Bool.Decides.{nat_tests}
use Rattle.std.proofs.lemmas.List.{length-map}
use Rattle.std.proofs.lemmas.List.Sums.{sum_by-cons}
use Rattle.std.proofs.lemmas.Option.{slice_get_within}
use Rattle.sl_ast.specs.Trees.{Constructor}
use Rattle.sl_ast.specs.Unfolding.{Placed}
use Rattle.sl_decode_meaning.specs.TreeCounts.{count}
use Rattle.sl_decode_meaning.specs.Trees.{Node, Trees, none, tree}
use Rattle.sl_base_graphs.specs.Levels.{value}
use Rattle.sl_base_graphs.proofs.LevelLemmas.{meet_equations}
use Rattle.sl_section_resolve.specs.Macros.{Body}
use Rattle.sl_spec_rules.specs.Gathered.{gathered}
use Rattle.sl_spec.specs.Tables.{Ctor, Operand}
use Rattle.sl_spec.specs.declared.constructors.Means.{Means}
use Rattle.sl_spec.specs.declared.constructors.Means.TheVariants as means
use Rattle.sl_spec.specs.declared.tables.Tables.{Tables}
use Rattle.sl_spec_tables.specs.Lengths.{greatest, put_together, row_nodes}
use Rattle.sl_spec_tables.specs.Lengths as lengths
use Rattle.sl_spec_tables.specs.Rows.{Row, graph, group as group_of, groups, is_of, rows, table_of, tables_of}
use Rattle.sl_spec_tables.specs.TableRules.{amount_rules, broken_at, early_rules, fault_or, first_fault, first_place, has_few_nodes, late_fault, place_of, reaching_place}
use Rattle.sl_spec_tables.specs.declared.faults.LateFault.{LateFault}
use Rattle.sl_spec_tables.specs.declared.faults.Place.{Place}
use Rattle.sl_spec_tables.specs.declared.quantities.Quantity.TheVariants.{Nodes}
use Rattle.sl_spec_tables.proofs.RowLemmas.{group_at, groups_length, stands, zipped}
use Rattle.sl_spec_tables.proofs.StepLemmas as steps
use Rattle.sl_faithful_instructions.specs.Counted.{Covers, sum_of, total}
use Rattle.sl_faithful_instructions.specs.Shaped.{AreShaped, number_of, tables_meant}
use Rattle.sl_faithful_instructions.proofs.Counts.{trees_are_covered}
use Rattle.sl_faithful_limits.specs.TreeLaws.{IsLimited, KeepLimits, TreesAreLimited, own_weight, weight_of}
use Rattle.sl_section_weights.specs.Weights.{first_heavy, is_heavy, macro_weights, row_weight, section_weight, step, table_weight}
use Rattle.sl_section_weights.proofs.WeightLemmas.{takes}

-- ---- the greatest

from_least : (m : ℕ) (ns : List ℕ) → m ≤ put_together max m ns
from_least m [] = omega arith
from_least m (n ∷ ns) = let h = from_least (max m n) ns in omega (arith, h)

-- a member that passes is within the greatest of those that do
module _ (p : Row → Bool) (f : Row → ℕ) where
  within : (rs : List Row) (k m : ℕ) (r : Row) → slice_get rs k ≡ Some r → p r ≡ true → f r ≤ put_together max m (map f (filter p rs))
  within [] k m r e passes = absurd (let no : ⊥ = cc in no)
  within (x ∷ rs) zero m r e passes =
      let same : x ≡ r = cc in
      subst (λ y. f y ≤ put_together max m (map f (filter p (x ∷ rs)))) same (first (p x) (ap p same ∙ passes))
    where
      first : (b : Bool) → b ≡ true → f x ≤ put_together max m (map f (cond b (x ∷ filter p rs) (filter p rs)))
      first true e = let h = from_least (max m (f x)) (map f (filter p rs)) in omega (arith, h)
      first false e = absurd (let no : ⊥ = cc in no)
  within (x ∷ rs) (suc k) m r e passes = rest (p x) (λ m'. within rs k m' r e passes)
    where
      rest : (b : Bool) → ((m' : ℕ) → f r ≤ put_together max m' (map f (filter p rs))) → f r ≤ put_together max m (map f (cond b (x ∷ filter p rs) (filter p rs)))
      rest true h = h (max m (f x))
      rest false h = h m

  -- where each is within a bound, so is the greatest
  bounded : (rs : List Row) (m most : ℕ) → m ≤ most → ((k : ℕ) (r : Row) → slice_get rs k ≡ Some r → f r ≤ most) → put_together max m (map f (filter p rs)) ≤ most
  bounded [] m most le each = le
  bounded (x ∷ rs) m most le each = rest (p x) (λ m' le'. bounded rs m' most le' (λ k r e. each (suc k) r e))
    where
      rest : (b : Bool) → ((m' : ℕ) → m' ≤ most → put_together max m' (map f (filter p rs)) ≤ most) → put_together max m (map f (cond b (x ∷ filter p rs) (filter p rs))) ≤ most
      rest true h = h (max m (f x)) (let first = each 0 x refl in omega (arith, first, le))
      rest false h = h m le

-- ---- operands

operands_sum : (f : ℕ → ℕ) (os : List Operand) → sum_by f (gathered (λ o. table_of o.means) os) ≡ sum_of f (tables_meant (map (λ o. o.means) os))
unfolding gathered
operands_sum f [] = refl
operands_sum f (o ∷ os) = one o.means (operands_sum f os)
  where
    one : (m : Means) → sum_by f (gathered (λ o. table_of o.means) os) ≡ sum_of f (tables_meant (map (λ o. o.means) os)) → sum_by f (table_of m ++ gathered (λ o. table_of o.means) os) ≡ sum_of f (tables_meant (m ∷ map (λ o. o.means) os))
    one (means.Table id) h = sum_by-cons f id (gathered (λ o. table_of o.means) os) ∙ ap (λ n. f id + n) h
    one (means.Field id) h = h
    one (means.Action k) h = h

-- ---- tables whose amount is the greatest of their constructors'

module _ (t : Tables) (cs : List (Placed Constructor)) (own : ℕ → ℕ) (row_own : Row → ℕ) (of_table : ℕ → ℕ) where
  abbrev amount : Row → ℕ
  amount r = row_own r + sum_by of_table (tables_of r.0)

  covers : length t.constructors ≤ length cs → ((number : ℕ) (c : Ctor) → slice_get t.constructors number ≡ Some c → c.table < length t.tables)
      → ((number : ℕ) (c : Ctor) (w : Placed Constructor) → slice_get cs number ≡ Some w → own number ≡ row_own (c, w))
      → ((v : ℕ) → v < length t.tables → of_table v ≡ greatest (map amount (group_of (groups (length t.tables) (rows t cs)) v)))
      → Covers t own of_table
  covers written inside same meets number c there =
      let w = stands cs number (let h = slice_get_within t.constructors number c there in omega arith) in
      let r : Row = (c, w.item) in
      let rs = rows t cs in
      let is : slice_get rs number ≡ Some r = zipped t.constructors cs number c w.item there w.is in
      let itself : (c.table == c.table) ≡ true = grind (arith, nat_tests) in
      let top = within (is_of c.table) amount rs number 0 r is itself in
      let lt = inside number c there in
      let whole : of_table c.table ≡ greatest (map amount (filter (is_of c.table) rs)) = meets c.table lt ∙ ap (λ g. greatest (map amount g)) (group_at (length t.tables) c.table rs lt) in
      let e = same number c w.item w.is in
      let sums = operands_sum of_table c.operands in
      omega (arith, top, whole, e, sums)

-- ---- nodes

one_each : (f : Trees Node) → total (λ number. 1) f ≡ count f
one_each none = refl
one_each (tree n below behind) = let a = one_each below in let b = one_each behind in omega (arith, a, b)

nowhere : (rule : ℕ) (place : Option Place) (other : Option LateFault) → fault_or rule place other ≡ None → (place ≡ None) × (other ≡ None)
nowhere rule (Some p) other h = absurd (let no : ⊥ = cc in no)
nowhere rule None other h = (refl, h)

none_behind : (xs ys : List (ℕ × Option Place)) → first_fault (xs ++ ys) ≡ None → first_fault ys ≡ None
none_behind [] ys h = h
none_behind (x ∷ xs) ys h = none_behind xs ys (nowhere x.0 x.1 (first_fault (xs ++ ys)) h).1

-- a place where one is, where a member passes
nothing_passes : (p : Row → Bool) (rs : List Row) → first_place p rs ≡ None → filter p rs ≡ []
nothing_passes p [] h = refl
nothing_passes p (x ∷ rs) h = one (p x) (nothing_passes p rs) h
  where
    one : (b : Bool) → (first_place p rs ≡ None → filter p rs ≡ []) → option_map place_of (if b then Some x else find p rs) ≡ None → cond b (x ∷ filter p rs) (filter p rs) ≡ []
    one true rest h = absurd (let no : ⊥ = cc in no)
    one false rest h = rest h

-- ---- weights

-- the first one that passes is in the list, where one passes
passes_below : {X : Type 0} (p : X → Bool) (xs : List X) (k : ℕ) (x : X) → slice_get xs k ≡ Some x → p x ≡ true → position_or_len p xs < length xs
passes_below p [] k x e passes = absurd (let no : ⊥ = cc in no)
passes_below p (y ∷ xs) zero x e passes =
    let same : y ≡ x = cc in
    here (p y) (ap p same ∙ passes)
  where
    here : (b : Bool) → b ≡ true → cond (not b) (1 + position_or_len p xs) 0 < suc (length xs)
    here true e = omega arith
    here false e = absurd (let no : ⊥ = cc in no)
passes_below p (y ∷ xs) (suc k) x e passes = let h = passes_below p xs k x e passes in later (p y) h
  where
    later : (b : Bool) → position_or_len p xs < length xs → cond (not b) (1 + position_or_len p xs) 0 < suc (length xs)
    later true h = omega arith
    later false h = omega arith

none_passes : {X : Type 0} (p : X → Bool) (xs : List X) (k : ℕ) (x : X) → position p xs ≡ None → slice_get xs k ≡ Some x → p x ≡ false
none_passes p xs k x nowhere e = tested (p x) refl
  where
    tested : (b : Bool) → p x ≡ b → b ≡ false
    tested false same = refl
    tested true same =
        let lt = passes_below p xs k x e same in
        let test : nat_lt (position_or_len p xs) (length xs) ≡ true = grind (arith, nat_tests) in
        let found : position p xs ≡ Some (position_or_len p xs) = ap (λ b. cond b (Some (position_or_len p xs)) None) test in
        absurd (let no : ⊥ = cc in no)

-- ---- both

module _ (t : Tables) (cs : List (Placed Constructor)) (macros : List Body) (keep : KeepLimits t cs macros) where
  abbrev rs : List Row
  rs = rows t cs

  abbrev gs : List (List Row)
  gs = groups (length t.tables) rs

  graph_length : length (graph gs) ≡ length t.tables
  graph_length = length-map gs _ ∙ groups_length (length t.tables) rs

  -- nodes
  abbrev node_value : ℕ → ℕ
  node_value v = value (graph gs) (lengths.step Nodes t) (group_of gs) v

  nodes_meet : (v : ℕ) → v < length t.tables → node_value v ≡ greatest (map (λ r. 1 + sum_by node_value (tables_of r.0)) (group_of gs v))
  nodes_meet v lt = meet_equations (graph gs) (lengths.step Nodes t) (group_of gs) (steps.takes Nodes t gs) keep.order keep.is_order v (omega (arith, graph_length))

  nodes_covered : Covers t (λ number. 1) node_value
  nodes_covered = covers t cs (λ number. 1) (λ r. 1) node_value keep.written keep.in_table (λ number c w e. refl) nodes_meet

  few : has_few_nodes t gs ≡ true → node_value 0 ≤ 1024
  unfolding has_few_nodes
  few test = grind (arith, nat_tests)

  few_nodes : 0 < length t.tables → node_value 0 ≤ 1024
  unfolding late_fault
  few_nodes some =
      let h = none_behind (early_rules t rs) ((34, reaching_place gs rs) ∷ amount_rules t gs rs) keep.late in
      let h' = (nowhere 34 (reaching_place gs rs) (first_fault (amount_rules t gs rs)) h).1 in
      let h'' = (nowhere 35 _ _ h').1 in
      tested (has_few_nodes t gs) refl (nowhere 36 (broken_at (has_few_nodes t gs) (first_place (is_of 0) rs)) _ h'').0
    where
      tested : (b : Bool) → has_few_nodes t gs ≡ b → broken_at b (first_place (is_of 0) rs) ≡ None → node_value 0 ≤ 1024
      tested true test e = few test
      tested false test e =
          let empty : group_of gs 0 ≡ [] = group_at (length t.tables) 0 rs some ∙ nothing_passes (is_of 0) rs e in
          let zero_is : node_value 0 ≡ 0 = nodes_meet 0 some ∙ ap (λ g. greatest (map (λ r. 1 + sum_by node_value (tables_of r.0)) g)) empty in
          omega (arith, zero_is)

  -- weights
  abbrev weight_value : ℕ → ℕ
  weight_value v = table_weight macros gs v

  weights_meet : (v : ℕ) → v < length t.tables → weight_value v ≡ greatest (map (row_weight macros weight_value) (group_of gs v))
  weights_meet v lt = meet_equations (graph gs) (step macros) (group_of gs) (takes macros gs) keep.order keep.is_order v (omega (arith, graph_length))

  weights_covered : Covers t (weight_of macros cs) weight_value
  weights_covered = covers t cs (weight_of macros cs) (λ r. section_weight macros (macro_weights macros) r.1.1.section) weight_value keep.written keep.in_table (λ number c w e. ap (own_weight macros) e) weights_meet

  pub row_light : (k : ℕ) (r : Row) → slice_get rs k ≡ Some r → row_weight macros weight_value r ≤ 65536
  unfolding first_heavy
  row_light k r e =
      let test : is_heavy macros gs r ≡ false = none_passes (is_heavy macros gs) rs k r keep.light e in
      grind (arith, nat_tests)

  light : 0 < length t.tables → weight_value 0 ≤ 65536
  light some =
      let whole : weight_value 0 ≡ greatest (map (row_weight macros weight_value) (filter (is_of 0) rs)) =
      weights_meet 0 some ∙ ap (λ g. greatest (map (row_weight macros weight_value) g)) (group_at (length t.tables) 0 rs some) in
      let most = bounded (is_of 0) (row_weight macros weight_value) rs 0 65536 (omega arith) row_light in
      omega (arith, whole, most)

  limited : (f : Trees Node) → AreShaped t number_of f (0 ∷ []) → IsLimited cs macros f
  limited none shaped = absurd shaped
  limited (tree n below behind) shaped =
      let f : Trees Node = tree n below behind in
      let is = shaped.0.0 in
      let some : 0 < length t.tables = subst (λ v. v < length t.tables) is.is_of (keep.in_table n.ctor is.ctor is.there) in
      let a = trees_are_covered t (λ number. 1) node_value f (0 ∷ []) nodes_covered shaped in
      let b = trees_are_covered t (weight_of macros cs) weight_value f (0 ∷ []) weights_covered shaped in
      let each = one_each f in
      let few = few_nodes some in
      let most = light some in
      record { nodes = omega (arith, a, each, few); weight = omega (arith, b, most) }

pub trees_are_limited : TreesAreLimited
trees_are_limited t cs macros f keep shaped = limited t cs macros keep f shaped
