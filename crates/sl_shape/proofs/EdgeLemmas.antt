-- The tables that patterns name are those that operands mean.
use Rattle.std.proofs.Common.{◌≡◌, ℕ, zero, suc, inl, inr, Bool, true, false, List, [], ◌++◌, length, slice_get, Option, Some, None, refl, sym, ap, subst, arith}
use Rattle.std.specs.Prelude.{option_map}
use Rattle.std.specs.List.{Contains}
use Rattle.std.proofs.lemmas.List.{get_or_past, length-map}
use Rattle.std.proofs.lemmas.List.Elements.{Contains-append_cases, Contains-append_left, Contains-append_right}
use Rattle.std.proofs.lemmas.Option.{get_or_from_slice_get, slice_get_cases, slice_get_within}
use Rattle.sl_ast.specs.Trees.{Constructor, Name, Pattern, bare, constraint, group, ellipsis, joined}
use Rattle.sl_ast.specs.Unfolding.{Placed}
use Rattle.sl_base_graphs.proofs.Seen.{read_or}
use Rattle.sl_base_graphs.specs.Reaching.{successors}
use Rattle.sl_spec_actions.specs.Parts.{Part, parts, is_table, is_in_choice, is_behind, holds_table}
use Rattle.sl_spec_rules.specs.Gathered.{gathered}
use Rattle.sl_spec.specs.Named.{index_named}
use Rattle.sl_spec.specs.Tables.{Ctor, Table}
use Rattle.sl_spec.specs.declared.tables.Tables.{Tables}
use Rattle.sl_spec_constructors.proofs.MemberLemmas.{of_gathered}
use Rattle.sl_spec_constructors.proofs.NumberLemmas.{numbered}
use Rattle.sl_spec_constructors.specs.Listed.{AreListed, MeansTable, NameOperands, NamesTable}
use Rattle.sl_shape.specs.Tables.{named_by, one_or_none, pattern_at, table_graph, tables_named}

-- ---- patterns

one_of : (o : Option ℕ) (w : ℕ) → Contains (one_or_none o) w → o ≡ Some w
one_of None w c = absurd (omega (arith, c.1))
one_of (Some v) w (zero, below, is) = ap Some is
one_of (Some v) w (suc k, below, is) = absurd (omega arith)

-- A part is a name that stands alone, and is the table's.
pub record IsTablePart (t : Tables) (ps : List Part) (w : ℕ) : Type 0 where
  pub part : Part
  pub among : Contains ps part
  pub alone : part.bare ≡ true
  pub named : index_named (λ b. b.name) part.name t.tables ≡ Some w

part_left : (t : Tables) (ps qs : List Part) (w : ℕ) → IsTablePart t ps w → IsTablePart t (ps ++ qs) w
part_left t ps qs w is = record { part = is.part; among = Contains-append_left ps qs is.part is.among; alone = is.alone; named = is.named }

part_right : (t : Tables) (ps qs : List Part) (w : ℕ) → IsTablePart t qs w → IsTablePart t (ps ++ qs) w
part_right t ps qs w is = record { part = is.part; among = Contains-append_right ps qs is.part is.among; alone = is.alone; named = is.named }

module _ (t : Tables) (is_table : Name → Bool) where
  pub table_part : (in_choice behind : Bool) (p : Pattern) (w : ℕ) → Contains (tables_named t p) w → IsTablePart t (parts is_table in_choice behind p) w
  unfolding parts tables_named
  table_part in_choice behind (bare name) w c = record {
    part = record { name = name; bare = true; in_choice = in_choice; behind_table = behind };
    among = (0, omega arith, refl);
    alone = refl;
    named = one_of (index_named (λ b. b.name) name t.tables) w c;
  }
  table_part in_choice behind (constraint name relation e) w c = absurd (omega (arith, c.1))
  table_part in_choice behind (group p) w c = table_part in_choice behind p w c
  table_part in_choice behind (ellipsis p) w c = table_part in_choice behind p w c
  table_part in_choice behind (joined op l r) w c =
      elim (Contains-append_cases (tables_named t l) (tables_named t r) w c) [
        | inl d ↦ part_left t _ _ w (table_part (is_in_choice op in_choice) behind l w d)
        | inr d ↦ part_right t _ _ w (table_part (is_in_choice op in_choice) (is_behind op behind (holds_table is_table l)) r w d)
      ]

-- ---- constructors

has_at : (ctors : List Ctor) (i : ℕ) (c : Ctor) → slice_get ctors i ≡ Some c → Contains ctors c
has_at ctors i c is = (i, slice_get_within ctors i c is, get_or_from_slice_get ctors i c c is)

module _ (t : Tables) (cs : List (Placed Constructor)) (listed : AreListed t cs) (names : NameOperands t cs) where
  named_at : (i w : ℕ) (c : Ctor) (o : Option (Placed Constructor)) → slice_get t.constructors i ≡ Some c → slice_get cs i ≡ o
      → Contains (named_by t (option_map (λ c. c.1.pattern) o)) w → MeansTable c.operands w
  named_at i w c None at is h = absurd (omega (arith, h.1))
  named_at i w c (Some placed) at is h =
      let p = table_part t (is_table t.tables) false false placed.1.pattern w h in
      names i c at p.part (record { placed = placed; placed_is = is; among = p.among; alone = p.alone }) w p.named

  of_table : (v w : ℕ) (b : Table) → slice_get t.tables v ≡ Some b → Contains (gathered (λ i. named_by t (pattern_at cs i)) b.constructors) w → NamesTable t.constructors v w
  of_table v w b at h =
      let g = of_gathered (λ i. named_by t (pattern_at cs i)) b.constructors w h in
      let n = numbered t.constructors v g.0 (subst (λ (l : List ℕ). Contains l g.0) (listed.numbers v b at) g.1) in
      (n.0, has_at t.constructors g.0 n.0 n.1, n.2, named_at g.0 w n.0 (slice_get cs g.0) n.1 refl g.2)

  -- where a pattern of a table names another, an operand means that
  pub patterns_name_operands : (v w : ℕ) → Contains (successors (table_graph t cs) v) w → NamesTable t.constructors v w
  patterns_name_operands v w h = elim ((slice_get_cases t.tables v).1) [
    | inl q ↦ of_table v w q.0 q.2 (subst (λ (l : List ℕ). Contains l w) (read_or named t.tables v q.0 [] q.1 (sym q.3)) h)
    | inr q ↦
        let e : successors (table_graph t cs) v ≡ [] = get_or_past (table_graph t cs) v [] (omega (arith, length-map t.tables named, q.0)) in
        absurd (omega (arith, ap length e, h.1))
  ]
    where
      named : Table → List ℕ
      named b = gathered (λ i. named_by t (pattern_at cs i)) b.constructors
