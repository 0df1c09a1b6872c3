-- What is reckoned of a table depends on its tables alone, up to any cap.
use Rattle.std.proofs.Common.{◌≡◌, ℕ, suc, ◌+◌, ◌≤◌, max, min, Bool, true, false, cond, List, [], ◌∷◌, ◌++◌, length, map, sum_by, Some, refl, ap, ◌∙◌, arith}
use Rattle.std.specs.List.{AllByRecursion, Contains}
use Rattle.std.proofs.lemmas.List.{get_or_past, length-map}
use Rattle.std.proofs.lemmas.List.Sums.{sum_by-cons}
use Rattle.sl_ast.specs.Trees.{Pattern, bare, constraint, group, ellipsis, joined}
use Rattle.sl_ast.specs.declared.patterns.PatternOp.{PatternOp}
use Rattle.sl_ast.specs.declared.patterns.PatternOp.TheVariants.{And, Then, Or}
use Rattle.sl_base_graphs.proofs.Seen.{at_map}
use Rattle.sl_base_graphs.specs.LevelEquations.{TakesSuccessors}
use Rattle.sl_base_graphs.specs.Reaching.{successors}
use Rattle.sl_spec_rules.specs.Gathered.{gathered}
use Rattle.sl_spec.specs.Named.{named, is_named}
use Rattle.sl_spec.specs.Tables as spec
use Rattle.sl_spec.specs.declared.constructors.Means.{Means}
use Rattle.sl_spec.specs.declared.constructors.Means.TheVariants.{Field, Table, Action}
use Rattle.sl_spec.specs.declared.tables.Tables.{Tables}
use Rattle.sl_spec_tables.specs.Amounts.{node_amount, pick, start}
use Rattle.sl_spec_tables.specs.Lengths.{amount, joined_bytes, means_bytes, operand_bytes, over_all, pattern_bytes, put_together, row_nodes, step}
use Rattle.sl_spec_tables.specs.Rows.{Row, graph, group as group_of, table_of, tables_in, tables_of}
use Rattle.sl_spec_tables.specs.declared.quantities.Quantity.{Quantity}
use Rattle.sl_spec_tables.specs.declared.quantities.Quantity.TheVariants.{Least, Greatest, Nodes}
use Rattle.sl_spec_tables.proofs.CapLemmas.{Keeps, max_keeps, min_keeps, sum_keeps, together_alike}

pub all_left : {X : Type 0} (P : X → Type 0) (xs ys : List X) → AllByRecursion P (xs ++ ys) → AllByRecursion P xs
all_left P [] ys h = tt
all_left P (x ∷ xs) ys h = (h.0, all_left P xs ys h.1)

pub all_right : {X : Type 0} (P : X → Type 0) (xs ys : List X) → AllByRecursion P (xs ++ ys) → AllByRecursion P ys
all_right P [] ys h = h
all_right P (x ∷ xs) ys h = all_right P xs ys h.1

pub all_of : (P : ℕ → Type 0) (xs : List ℕ) → ((x : ℕ) → Contains xs x → P x) → AllByRecursion P xs
all_of P [] each = tt
all_of P (x ∷ xs) each = (each x (0, omega arith, refl), all_of P xs (λ y c. each y (suc c.0, omega (arith, c.1), c.2)))

-- ---- nodes one operand after another

pub sum_as : (f : ℕ → ℕ) (os : List spec.Operand) (n : ℕ) → n + sum_by f (gathered (λ o. table_of o.means) os) ≡ put_together (λ a b. a + b) n (map (λ o. node_amount f o.means) os)
unfolding gathered
sum_as f [] n = omega arith
sum_as f (o ∷ os) n = by o.means (λ k. sum_as f os k)
  where
    move : (n a b c d : ℕ) → c ≡ a + b → (n + a) + b ≡ d → n + c ≡ d
    move n a b c d h e = omega arith

    by : (m : Means) → ((k : ℕ) → k + sum_by f (gathered (λ o. table_of o.means) os) ≡ put_together (λ a b. a + b) k (map (λ o. node_amount f o.means) os))
        → n + sum_by f (table_of m ++ gathered (λ o. table_of o.means) os) ≡ put_together (λ a b. a + b) (n + node_amount f m) (map (λ o. node_amount f o.means) os)
    by (Table id) each = move n (f id) (sum_by f (gathered (λ o. table_of o.means) os)) _ _ (sum_by-cons f id (gathered (λ o. table_of o.means) os)) (each (n + f id))
    by (Field id) each = move n 0 (sum_by f (gathered (λ o. table_of o.means) os)) _ _ (omega arith) (each (n + 0))
    by (Action k) each = move n 0 (sum_by f (gathered (λ o. table_of o.means) os)) _ _ (omega arith) (each (n + 0))

pub nodes_as : (f : ℕ → ℕ) (r : Row) → row_nodes f r ≡ put_together (λ a b. a + b) 1 (map (λ o. node_amount f o.means) r.0.operands)
nodes_as f r = sum_as f r.0.operands 1

pub pick_keeps : (q : Quantity) (cap : ℕ) → Keeps cap (pick q)
pick_keeps Least cap = min_keeps cap
pick_keeps Greatest cap = max_keeps cap
pick_keeps Nodes cap = max_keeps cap

pub pick_small : (q : Quantity) (m n cap : ℕ) → m ≤ cap → n ≤ cap → pick q m n ≤ cap
pick_small Least m n cap h e = omega arith
pick_small Greatest m n cap h e = omega arith
pick_small Nodes m n cap h e = omega arith

-- from the number before the first one
pub from_start : (q : Quantity) (ns : List ℕ) → 1 ≤ length ns → min (put_together (pick q) (start q) ns) 1025 ≡ min (over_all q ns) 1025
from_start q [] some = absurd (omega arith)
from_start Least (n ∷ ns) some = together_alike 1025 min (min_keeps 1025) (min 1025 n) n ns (omega arith)
from_start Greatest (n ∷ ns) some = refl
from_start Nodes (n ∷ ns) some = refl

module _ (cap : ℕ) (f g : ℕ → ℕ) where
  -- alike up to the cap at these tables
  abbrev pub Alike : List ℕ → Type 0
  Alike us = AllByRecursion (λ u. min (f u) cap ≡ min (g u) cap) us

  pub sums_alike : (us : List ℕ) → Alike us → min (sum_by f us) cap ≡ min (sum_by g us) cap
  sums_alike [] h = refl
  sums_alike (u ∷ us) h =
      let rest = sums_alike us h.1 in
      let one = h.0 in
      let a = sum_by-cons f u us in
      let b = sum_by-cons g u us in
      omega arith

module _ (cap : ℕ) (t : Tables) (f g : ℕ → ℕ) where
  means_alike : (m : Means) → Alike cap f g (table_of m) → min (means_bytes t f m) cap ≡ min (means_bytes t g m) cap
  means_alike (Table id) h = h.0
  means_alike (Field id) h = refl
  means_alike (Action n) h = refl

  operand_alike : (name : List ℕ) (os : List spec.Operand) → Alike cap f g (gathered (λ o. table_of o.means) os)
      → min (operand_bytes t f (named (λ o. o.name) name os)) cap ≡ min (operand_bytes t g (named (λ o. o.name) name os)) cap
  unfolding gathered
  operand_alike name [] h = refl
  operand_alike name (o ∷ os) h = by (is_named (λ o. o.name) name o) (operand_alike name os (all_right _ (table_of o.means) _ h))
    where
      by : (b : Bool) → min (operand_bytes t f (named (λ o. o.name) name os)) cap ≡ min (operand_bytes t g (named (λ o. o.name) name os)) cap
          → min (operand_bytes t f (cond b (Some o) (named (λ o. o.name) name os))) cap ≡ min (operand_bytes t g (cond b (Some o) (named (λ o. o.name) name os))) cap
      by true rest = means_alike o.means (all_left _ (table_of o.means) (gathered (λ o. table_of o.means) os) h)
      by false rest = rest

  pub joined_alike : (op : PatternOp) (a b m n : ℕ) → min a cap ≡ min b cap → min m cap ≡ min n cap → min (joined_bytes op a m) cap ≡ min (joined_bytes op b n) cap
  joined_alike And a b m n h e = max_keeps cap a b m n h e
  joined_alike Then a b m n h e = sum_keeps cap a b m n h e
  joined_alike Or a b m n h e = max_keeps cap a b m n h e

  pattern_alike : (os : List spec.Operand) → Alike cap f g (gathered (λ o. table_of o.means) os) → (p : Pattern) → min (pattern_bytes t f os p) cap ≡ min (pattern_bytes t g os p) cap
  unfolding pattern_bytes
  pattern_alike os h (bare name) = operand_alike name os h
  pattern_alike os h (constraint name relation e) = refl
  pattern_alike os h (group p) = pattern_alike os h p
  pattern_alike os h (ellipsis p) = pattern_alike os h p
  pattern_alike os h (joined op p q) = joined_alike op _ _ _ _ (pattern_alike os h p) (pattern_alike os h q)

  pub amount_alike : (q : Quantity) (r : Row) → Alike cap f g (tables_of r.0) → min (amount q t f r) cap ≡ min (amount q t g r) cap
  amount_alike Least r h = pattern_alike r.0.operands h r.1.1.pattern
  amount_alike Greatest r h = pattern_alike r.0.operands h r.1.1.pattern
  amount_alike Nodes r h = let e = sums_alike cap f g (tables_of r.0) h in omega arith

  together : (q : Quantity) (k : ℕ → ℕ → ℕ) → Keeps cap k → (rs : List Row) → Alike cap f g (tables_in rs) → (a b : ℕ) → min a cap ≡ min b cap
      → min (put_together k a (map (amount q t f) rs)) cap ≡ min (put_together k b (map (amount q t g) rs)) cap
  unfolding gathered
  together q k keeps [] h a b e = e
  together q k keeps (r ∷ rs) h a b e =
      together q k keeps rs (all_right _ (tables_of r.0) _ h) (k a (amount q t f r)) (k b (amount q t g r))
      (keeps a b (amount q t f r) (amount q t g r) e (amount_alike q r (all_left _ (tables_of r.0) (gathered (λ r. tables_of r.0) rs) h)))

  pub step_alike : (q : Quantity) (rs : List Row) → Alike cap f g (tables_in rs) → min (step q t f rs) cap ≡ min (step q t g rs) cap
  unfolding gathered
  step_alike Greatest rs h = together Greatest max (max_keeps cap) rs h 0 0 refl
  step_alike Nodes rs h = together Nodes max (max_keeps cap) rs h 0 0 refl
  step_alike Least [] h = refl
  step_alike Least (r ∷ rs) h =
      together Least min (min_keeps cap) rs (all_right _ (tables_of r.0) _ h) (amount Least t f r) (amount Least t g r)
      (amount_alike Least r (all_left _ (tables_of r.0) (gathered (λ r. tables_of r.0) rs) h))

-- the successors of a table
pub tables_at : (gs : List (List Row)) (v : ℕ) → successors (graph gs) v ≡ tables_in (group_of gs v)
unfolding gathered
tables_at gs v = at_map tables_in gs v []

module _ (q : Quantity) (t : Tables) (gs : List (List Row)) where
  at_successors : (cap v : ℕ) (f g : ℕ → ℕ) → ((w : ℕ) → Contains (successors (graph gs) v) w → min (f w) cap ≡ min (g w) cap)
      → min (step q t f (group_of gs v)) cap ≡ min (step q t g (group_of gs v)) cap
  at_successors cap v f g each = step_alike cap t f g q (group_of gs v)
      (all_of (λ u. min (f u) cap ≡ min (g u) cap) (tables_in (group_of gs v)) (λ w c. each w (rw (tables_at gs v) c)))

  pub caps : (cap v : ℕ) (f g : ℕ → ℕ) → ((w : ℕ) → Contains (successors (graph gs) v) w → f w ≡ min (g w) cap)
      → min (step q t f (group_of gs v)) cap ≡ min (step q t g (group_of gs v)) cap
  caps cap v f g each = at_successors cap v f g (λ w c. let e = each w c in omega arith)

  none : (f : ℕ → ℕ) → step q t f [] ≡ 0
  none f = by q
    where
      by : (q : Quantity) → step q t f [] ≡ 0
      by Least = refl
      by Greatest = refl
      by Nodes = refl

  pub takes : TakesSuccessors (graph gs) (step q t) (group_of gs)
  takes = record {
    alone = λ v f g each.
        let a = step q t f (group_of gs v) in
        let b = step q t g (group_of gs v) in
        let e = at_successors (a + b) v f g (λ w c. ap (λ n. min n (a + b)) (each w c)) in
        omega arith;
    outside = λ v past f. ap (step q t f) (get_or_past gs v [] (omega (arith, length-map gs tables_in))) ∙ none f;
  }
