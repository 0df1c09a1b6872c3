-- Where rules 33 and 34 hold, `instruction` has a constructor and no table reaches itself.
use Rattle.std.proofs.Common.{◌≡◌, ℕ, zero, suc, ◌<◌, ◌==◌, Bool, true, false, ◌||◌, List, [], ◌∷◌, length, slice_get, Option, Some, None, refl, sym, ap, subst, ◌∙◌, arith}
use Rattle.std.specs.List.{Contains, filter, list_any, zip}
use Rattle.std.proofs.lemmas.Bool.{false≢true}
use Rattle.std.proofs.lemmas.Option.{slice_get_read}
use Rattle.sl_ast.specs.Trees.{Constructor}
use Rattle.sl_ast.specs.Unfolding.{Placed}
use Rattle.sl_spec_constructors.proofs.MemberLemmas.{in_filter, in_gathered}
use Rattle.sl_spec_constructors.specs.Listed.{AreListed, NamesTable}
use Rattle.sl_base_graphs.proofs.Closure.{has_successors, some_successor, told}
use Rattle.sl_base_graphs.proofs.Seen.{at_map}
use Rattle.sl_base_graphs.specs.Orders.{NoneReaches}
use Rattle.sl_base_graphs.specs.Reaching.{Graph, Reaches, direct, further, reaches_itself, successors}
use Rattle.sl_spec_rules.specs.Gathered.{gathered}
use Rattle.sl_spec.specs.Tables.{Ctor, Operand}
use Rattle.sl_spec.specs.declared.constructors.Means.TheVariants as means
use Rattle.sl_spec.specs.declared.tables.Tables.{Tables}
use Rattle.sl_spec_tables.proofs.JudgeLemmas.{none_reaches}
use Rattle.sl_spec_tables.proofs.RowLemmas.{group_at}
use Rattle.sl_spec_tables.specs.Rows.{Row, graph, groups, is_of, rows, table_of, tables_in, tables_of}
use Rattle.sl_spec_tables.specs.TableRules.{broken_at, fault_or, has_default, has_instruction, late_fault, past_most, reaching_place}
use Rattle.sl_spec_tables.specs.declared.faults.LateFault.{LateFault}
use Rattle.sl_spec_tables.specs.declared.faults.Place.{Place}
use Rattle.sl_spec_tables.specs.declared.faults.Place.TheVariants.{End}

-- ---- rules 33 and 34

here_none : (rule : ℕ) (place : Option Place) (other : Option LateFault) → fault_or rule place other ≡ None → place ≡ None
here_none rule None other h = refl
here_none rule (Some p) other h = absurd (let e : ⊥ = cc in e)

behind_none : (rule : ℕ) (place : Option Place) (other : Option LateFault) → fault_or rule place other ≡ None → other ≡ None
behind_none rule None other h = h
behind_none rule (Some p) other h = absurd (let e : ⊥ = cc in e)

kept_rule : (holds : Bool) → broken_at holds (Some End) ≡ None → holds ≡ true
kept_rule true h = refl
kept_rule false h = absurd (let e : ⊥ = cc in e)

-- a constructor of the table, at its number
abbrev pub AtNumber : List Ctor → ℕ → Type 0
AtNumber ctors table = (i : ℕ) × (c : Ctor) × (slice_get ctors i ≡ Some c) × (c.table ≡ table)

some_by : (c : Ctor) (ctors : List Ctor) (table : ℕ) (b : Bool) (rest : Bool) → (c.table == table) ≡ b → (b || rest) ≡ true → (rest ≡ true → AtNumber ctors table) → AtNumber (c ∷ ctors) table
some_by c ctors table true rest is h later = (0, c, refl, same c.table table is)
  where
    same : (a b : ℕ) → (a == b) ≡ true → a ≡ b
    same a b h = grind arith
some_by c ctors table false rest is h later = let r = later h in (suc r.0, r.1, r.2, r.3)

some_row : (ctors : List Ctor) (cs : List (Placed Constructor)) (table : ℕ) → list_any (is_of table) (zip ctors cs) ≡ true → AtNumber ctors table
some_row [] cs table h = absurd (cc)
some_row (c ∷ ctors) [] table h = absurd (cc)
some_row (c ∷ ctors) (d ∷ cs) table h = some_by c ctors table (c.table == table) (list_any (is_of table) (zip ctors cs)) refl h (λ r. some_row ctors cs table r)

-- ---- edges

-- a constructor stands beside what is written of it
beside : (ctors : List Ctor) (cs : List (Placed Constructor)) (c : Ctor) → length ctors ≡ length cs → Contains ctors c → (d : Placed Constructor) × Contains (zip ctors cs) (c, d)
beside [] cs c long h = absurd (omega (arith, h.1))
beside (x ∷ ctors) [] c long h = absurd (omega arith)
beside (x ∷ ctors) (d ∷ cs) c long (zero, below, here) = (d, (0, omega arith, ap (λ (e : Ctor). (e, d)) here))
beside (x ∷ ctors) (d ∷ cs) c long (suc k, below, here) =
    let r = beside ctors cs c (omega (arith, long)) (k, omega (arith, below), here) in
    (r.0, (suc r.1.0, omega (arith, r.1.1), r.1.2))

meant : (o : Operand) (table : ℕ) → o.means ≡ means.Table table → Contains (table_of o.means) table
meant o table is = subst (λ m. Contains (table_of m) table) (sym is) (0, omega arith, refl)

module _ (t : Tables) (cs : List (Placed Constructor)) where
  abbrev by_operands : Graph
  by_operands = graph (groups (length t.tables) (rows t cs))

  successors_are : (v : ℕ) → v < length t.tables → successors by_operands v ≡ tables_in (filter (is_of v) (rows t cs))
  unfolding gathered
  successors_are v below =
      at_map tables_in (groups (length t.tables) (rows t cs)) v [] ∙ ap tables_in (group_at (length t.tables) v (rows t cs) below)

  -- what an operand means is a successor
  edge : AreListed t cs → (v w : ℕ) → NamesTable t.constructors v w → Contains (successors by_operands v) w
  edge listed v w names =
      let c = names.0 in
      let below : v < length t.tables = subst (λ (u : ℕ). u < length t.tables) names.2
      (listed.below names.1.0 c (slice_get_read t.constructors (length t.constructors) names.1.0 c refl names.1.1 (sym names.1.2))) in
      let o = names.3.0 in
      let d = beside t.constructors cs c listed.counted names.1 in
      let of_it : is_of v (c, d.0) ≡ true = itself c.table v names.2 in
      let among = in_gathered (λ (o : Operand). table_of o.means) c.operands o w names.3.1 (meant o w names.3.2) in
      subst (λ (l : List ℕ). Contains l w) (sym (successors_are v below))
      (in_gathered (λ (r : Row). tables_of r.0) (filter (is_of v) (rows t cs)) (c, d.0) w (in_filter (is_of v) (rows t cs) (c, d.0) of_it d.1) among)
    where
      itself : (a b : ℕ) → a ≡ b → (a == b) ≡ true
      itself a b h = grind arith

-- ---- graphs

-- what a graph with fewer edges reaches is reached
reaches_too : (g h : Graph) → ((v w : ℕ) → Contains (successors g v) w → Contains (successors h v) w) → (v w : ℕ) → Reaches g v w → Reaches h v w
reaches_too g h edges v w (direct c) = direct (edges v w c)
reaches_too g h edges v x (further {w = w} c r) = further (edges v w c) (reaches_too g h edges w x r)

none_too : (g h : Graph) → ((v w : ℕ) → Contains (successors g v) w → Contains (successors h v) w) → NoneReaches h → NoneReaches g
none_too g h edges none v inside = by (reaches_itself g v) refl
  where
    by : (b : Bool) → reaches_itself g v ≡ b → b ≡ false
    by false is = refl
    by true is =
        let r = reaches_too g h edges v v (told.is_right g v is) in
        absurd (false≢true (sym (none v (has_successors h v (some_successor h r))) ∙ told.finds h v r))

-- ---- where the rules hold

module _ (t : Tables) (cs : List (Placed Constructor)) (none : late_fault t cs ≡ None) where
  pub has_first : AtNumber t.constructors 0
  unfolding late_fault has_instruction
  has_first =
      let rs = rows t cs in
      let a = behind_none 32 (broken_at (has_default t) (Some End)) _ none in
      some_row t.constructors cs 0 (kept_rule (has_instruction rs) (here_none 33 (broken_at (has_instruction rs) (Some End)) _ a))

  none_reach : NoneReaches (graph (groups (length t.tables) (rows t cs)))
  unfolding late_fault
  none_reach =
      let rs = rows t cs in
      let gs = groups (length t.tables) rs in
      let a = behind_none 32 (broken_at (has_default t) (Some End)) _ none in
      let b = behind_none 33 (broken_at (has_instruction rs) (Some End)) _ a in
      let c = behind_none 33 (past_most rs) _ b in
      none_reaches (length t.tables) gs rs refl (here_none 34 (reaching_place gs rs) _ c)

  -- no graph reaches itself in which a table names only what its operands mean
  pub none_reaches_in : AreListed t cs → (g : Graph) → ((v w : ℕ) → Contains (successors g v) w → NamesTable t.constructors v w) → NoneReaches g
  none_reaches_in listed g edges = none_too g (by_operands t cs) (λ v w c. edge t cs listed v w (edges v w c)) none_reach
