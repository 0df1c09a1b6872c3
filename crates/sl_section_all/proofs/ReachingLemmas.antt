-- Where rules 32 to 37 hold, no table reaches itself, by the operands of its constructors.
use Rattle.std.proofs.Common.{◌≡◌, ℕ, ◌≤◌, ◌==◌, Bool, true, false, cond, List, [], ◌∷◌, ◌++◌, None, length, map, refl, sym, ap, ◌∙◌, subst, arith}
use Rattle.std.specs.List.{filter, flat_map, range_with_len, zip}
use Rattle.std.proofs.lemmas.List.{append_assoc}
use Rattle.sl_ast.specs.Trees.{Constructor}
use Rattle.sl_ast.specs.Unfolding.{Placed}
use Rattle.sl_base_graphs.specs.Orders.{NoneReaches}
use Rattle.sl_spec_order.specs.Orders as order
use Rattle.sl_spec_rules.specs.Gathered.{gathered}
use Rattle.sl_spec.specs.Tables.{Ctor, Operand}
use Rattle.sl_spec.specs.declared.constructors.Means.{Means}
use Rattle.sl_spec.specs.declared.constructors.Means.TheVariants.{Field, Table, Action}
use Rattle.sl_spec.specs.declared.tables.Tables.{Tables}
use Rattle.sl_spec_tables.specs.Rows.{Row, graph, groups, is_of, rows, table_of, tables_in, tables_of}
use Rattle.sl_spec_tables.specs.TableRules.{late_fault}
use Rattle.sl_section_weights.proofs.WeightLemmas.{none_reach}

same_table : (m : Means) → table_of m ≡ order.table_of m
same_table (Table id) = refl
same_table (Field id) = refl
same_table (Action n) = refl

same_operands : (os : List Operand) → gathered (λ o. table_of o.means) os ≡ order.tables_in os
unfolding gathered
same_operands [] = refl
same_operands (o ∷ os) =
    ap (λ (l : List ℕ). l ++ gathered (λ o. table_of o.means) os) (same_table o.means)
    ∙ ap (λ (l : List ℕ). order.table_of o.means ++ l) (same_operands os)

-- one constructor more, where it is one of the table
one_more : (b : Bool) (c : Ctor) (p : Placed Constructor) (rs : List Row)
    → tables_in (cond b ((c, p) ∷ rs) rs) ≡ cond b (order.tables_in c.operands) [] ++ tables_in rs
unfolding gathered
one_more true c p rs = ap (λ (l : List ℕ). l ++ tables_in rs) (same_operands c.operands)
one_more false c p rs = refl

-- the tables that the constructors of a table name
same_named : (cs : List Ctor) (ps : List (Placed Constructor)) (v : ℕ) → length cs ≤ length ps
    → tables_in (filter (is_of v) (zip cs ps)) ≡ order.named_by cs v
unfolding gathered
same_named [] ps v long = refl
same_named (c ∷ cs) [] v long = absurd (omega arith)
same_named (c ∷ cs) (p ∷ ps) v long =
    one_more (c.table == v) c p (filter (is_of v) (zip cs ps))
    ∙ ap (λ (l : List ℕ). cond (c.table == v) (order.tables_in c.operands) [] ++ l) (same_named cs ps v (omega arith))

same_graph : (vs : List ℕ) (cs : List Ctor) (ps : List (Placed Constructor)) → length cs ≤ length ps
    → map tables_in (map (λ v. filter (is_of v) (zip cs ps)) vs) ≡ map (order.named_by cs) vs
same_graph [] cs ps long = refl
same_graph (v ∷ vs) cs ps long = λ i. same_named cs ps v long i ∷ same_graph vs cs ps long i

-- the graph of rule 34 is that of the operands
graphs_are_one : (t : Tables) (ps : List (Placed Constructor)) → length t.constructors ≤ length ps
    → graph (groups (length t.tables) (rows t ps)) ≡ order.graph (length t.tables) t.constructors
unfolding groups
graphs_are_one t ps long = same_graph (range_with_len 0 (length t.tables)) t.constructors ps long

pub none_reaches : (t : Tables) (ps : List (Placed Constructor)) → length t.constructors ≤ length ps → late_fault t ps ≡ None
    → NoneReaches (order.graph (length t.tables) t.constructors)
none_reaches t ps long holds = subst NoneReaches (graphs_are_one t ps long) (none_reach t ps holds)
