-- After `sure` no decode ends for want of a constructor.
use Rattle.std.proofs.Common.{◌≡◌, ℕ, zero, suc, ◌+◌, ◌<◌, ◌≤◌, ◌^◌, ◌%◌, ◌==◌, Bool, true, false, cond, List, [], ◌∷◌}
use Rattle.std.proofs.Common.{map, length, Option, Some, None, Result, Ok, refl, sym, ap, ap₂, subst, ◌∙◌, arith}
use Rattle.std.specs.Prelude.{All, option_and_then, slice_get}
use Rattle.std.specs.List.{AllByRecursion, Contains, filter}
use Rattle.std.proofs.lemmas.List.{length-map}
use Rattle.std.proofs.lemmas.Option.{same_Some}
use Rattle.sl_ast.specs.Trees.{Action, Constructor, Pattern}
use Rattle.sl_ast.specs.Unfolding.{Placed, written}
use Rattle.sl_base_graphs.specs.Levels.{level}
use Rattle.sl_base_graphs.specs.Orders.{NoneReaches}
use Rattle.sl_base_graphs.specs.Reaching.{Graph, successors}
use Rattle.sl_bind.proofs.BoundLemmas.{is_whole, tables_listed}
use Rattle.sl_bind.proofs.SideLemmas.{pair_at}
use Rattle.sl_bind.proofs.WalkLemmas.{whole_text}
use Rattle.sl_bind.specs.Binding.{constructors_of}
use Rattle.sl_conflict.proofs.NumberLemmas.{numbers_are_of}
use Rattle.sl_conflict.specs.Soundness.{has_in, numbers}
use Rattle.sl_cube.specs.Points.{InRange}
use Rattle.sl_cube.specs.declared.Point.{Point}
use Rattle.sl_cube_sets.specs.Sets.{IsChoice}
use Rattle.sl_decode_choices.specs.Choices.{Chooses, IsChoiceOf, in_range}
use Rattle.sl_decode_lengths.proofs.AcceptedLemmas.{bound_are_taken, taken_names_agree}
use Rattle.sl_decode_lengths.proofs.BoundLemmas.{beside, greatest_member}
use Rattle.sl_decode_lengths.proofs.RuleLemmas.{all_groups, all_rows, is_at_most}
use Rattle.sl_decode_lengths.specs.Naming.{NamesAgree}
use Rattle.sl_decode_meaning.specs.Actions.{address_in}
use Rattle.sl_decode_meaning.specs.Choices.{Choice}
use Rattle.sl_decode_meaning.specs.Decoding.{Decoded, Grown, Input, chosen, chosen_at, decoded, decoded_of, finish}
use Rattle.sl_decode_meaning.specs.Decoding.{grow, operands, point_at, site_at, with_meaning}
use Rattle.sl_decode_meaning.specs.Laws.{input}
use Rattle.sl_decode_meaning.specs.Meanings.{Meaning, Slot, said, said_by, says, slot, slot_of, table_in}
use Rattle.sl_decode_meaning.specs.Outcomes.{◌>>=◌}
use Rattle.sl_decode_meaning.specs.Places.{bare_place, leaves, length_of, means_table, or_start, table_operands}
use Rattle.sl_decode_meaning.specs.Trees.{Begun, Trees, none as no_tree, tree}
use Rattle.sl_decode_meaning.specs.declared.faults.Fault.{Fault}
use Rattle.sl_gap.specs.Reports.{IsPlain, IsSure}
use Rattle.sl_gap_operands.specs.Operands.{IsExamined}
use Rattle.sl_gap_sure.proofs.AloneLemmas.{IsAlone, TablesAlone, taken_alone}
use Rattle.sl_gap_sure.proofs.GrowLemmas.{Grows, Stands, chosen_grows, finish_served, none_stands, one_stands}
use Rattle.sl_gap_sure.proofs.NestLemmas.{AreAbove, few_above, none_above, one_above}
use Rattle.sl_gap_sure.proofs.OutcomeLemmas.{IsServed, acts_quiet, late_served, then_served}
use Rattle.sl_gap_sure.proofs.PlaceLemmas.{operand_inside}
use Rattle.sl_gap_sure.proofs.WindowLemmas.{window_fits, windows_follow}
use Rattle.sl_gap_sure.specs.Laws.{SureIsMatched}
use Rattle.sl_gap_sure.specs.Matched.{window}
use Rattle.sl_gap_tables.specs.Gaps.{IsChosen, IsGap}
use Rattle.sl_section_weights.proofs.WeightLemmas.{none_reach}
use Rattle.sl_shape.specs.Readings.{HasPoint}
use Rattle.sl_spec.specs.Tables.{Ctor, Operand, Table}
use Rattle.sl_spec.specs.declared.constructors.Means.{Means}
use Rattle.sl_spec.specs.declared.constructors.Means.TheVariants as means
use Rattle.sl_spec.specs.declared.tables.Tables.{Tables}
use Rattle.sl_spec_constructors.proofs.MemberLemmas.{in_filter, in_gathered, passes_filter}
use Rattle.sl_spec_constructors.specs.Listed.{AreListed}
use Rattle.sl_spec_tables.proofs.RowLemmas.{group_at, groups_length}
use Rattle.sl_spec_tables.proofs.StepLemmas.{tables_at}
use Rattle.sl_spec_tables.specs.Lengths.{row_bytes, step}
use Rattle.sl_spec_tables.specs.Rows as rows
use Rattle.sl_spec_tables.specs.Rows.{Row, graph, group, is_of, tables_in, tables_of}
use Rattle.sl_spec_tables.specs.TableRules.{late_fault}
use Rattle.sl_spec_tables.specs.declared.quantities.Quantity.TheVariants.{Greatest}

-- ---- lists

-- what a filter keeps was there
was_there : {X : Type 0} (test : X → Bool) (xs : List X) (x : X) → Contains (filter test xs) x → Contains xs x
was_there test [] x c = absurd (omega (arith, c.1))
was_there test (y ∷ ys) x c = by (test y) c (was_there test ys x)
  where
    later : Contains ys x → Contains (y ∷ ys) x
    later c = (suc c.0, omega (arith, c.1), c.2)

    by : (b : Bool) → Contains (cond b (y ∷ filter test ys) (filter test ys)) x → (Contains (filter test ys) x → Contains ys x) → Contains (y ∷ ys) x
    by true (zero, below, here) rest = (0, omega arith, here)
    by true (suc k, below, here) rest = later (rest (k, omega (arith, below), here))
    by false c rest = later (rest c)

-- a list as long has a member there, too
there_at : {X Y : Type 0} (xs : List X) (ys : List Y) (k : ℕ) (x : X) → length xs ≡ length ys → slice_get xs k ≡ Some x → (y : Y) × (slice_get ys k ≡ Some y)
there_at [] ys k x long is = absurd (let no : ⊥ = cc in no)
there_at (z ∷ xs) [] k x long is = absurd (omega (arith, long))
there_at (z ∷ xs) (y ∷ ys) zero x long is = (y, refl)
there_at (z ∷ xs) (y ∷ ys) (suc k) x long is = there_at xs ys k x (omega (arith, long)) is

-- the place of the first slot, where no length is known
abbrev first_at : List Slot → ℕ
first_at [] = 0
first_at (slot table place ∷ slots) = place []

is_table_of : (m : Means) → means_table m ≡ true → m ≡ means.Table (table_in m)
is_table_of (means.Table id) is = refl
is_table_of (means.Field id) is = absurd (let no : ⊥ = cc in no)
is_table_of (means.Action n) is = absurd (let no : ⊥ = cc in no)

-- ---- points

same_point : (p : Point) → InRange p → in_range p ≡ p
same_point p range = λ i. record { bytes = bytes i; context = context i }
  where
    bytes : p.bytes % 2 ^ 128 ≡ p.bytes
    bytes = omega (arith, range.0)

    context : p.context % 2 ^ 64 ≡ p.context
    context = omega (arith, range.1)

-- ---- a text of which the report says `sure`

module _ (t : Tables) (cs : List (Placed Constructor)) (list : AreListed t cs) (agree : NamesAgree t cs) (late : late_fault t cs ≡ None)
    (all : List Table) (alone : (k : ℕ) (c : Ctor) (d : Placed Constructor) → slice_get t.constructors k ≡ Some c → slice_get cs k ≡ Some d → TablesAlone all c d)
    (sure : IsSure t cs) (choose : Choice) (is_choice : IsChoiceOf t cs choose)
    (bytes : List ℕ) (are : All (λ b. b < 256) bytes) (long : length bytes ≡ window) (address : ℕ) where
  abbrev i : Input
  i = input choose (says t cs) bytes address

  abbrev g : Graph
  g = graph (all_groups t cs)

  abbrev bound : ℕ → ℕ → ℕ
  bound k table = level (step Greatest t) (group (all_groups t cs)) k table

  nodes : length g ≡ length t.tables
  nodes = length-map (all_groups t cs) tables_in ∙ groups_length (length t.tables) (all_rows t cs)

  none : NoneReaches g
  none = none_reach t cs late

  in_bits : (at x : ℕ) → at ≤ 255 → x < 2 ^ 64 → InRange (point_at bytes at x)
  in_bits at x within fits = (window_fits bytes are at (omega (arith, long)), fits)

  -- ---- what is chosen

  -- A constructor of the table is the choice at the point.
  record IsTaken (table : ℕ) (p : Point) : Type 0 where
    pub number : ℕ
    pub ctor : Ctor
    pub placed : Placed Constructor
    pub ctor_is : slice_get t.constructors number ≡ Some ctor
    pub placed_is : slice_get cs number ≡ Some placed
    pub own : ctor.table ≡ table
    pub picked : choose table p ≡ Some number
    pub chosen_so : IsChosen t cs number p

  taken_as : (table number : ℕ) (p : Point) → choose table p ≡ Some number → IsChoice (has_in t cs table) (numbers t) p number → IsTaken table p
  taken_as table number p picked choice =
      let of = numbers_are_of t.constructors (HasPoint t cs) table number choice.has_point.0 p choice.has_point.1 choice.has_point.2 in
      let d = there_at t.constructors cs number of.ctor list.counted of.ctor_is in
      record {
        number = number;
        ctor = of.ctor;
        placed = d.0;
        ctor_is = of.ctor_is;
        placed_is = d.1;
        own = of.of_table;
        picked = picked;
        chosen_so = record { table = table; is_of = of; choice = choice };
      }

  taken_at : (table : ℕ) (p : Point) → InRange p → (IsGap t cs table p → ⊥) → IsTaken table p
  taken_at table p range matched = by (choose table p) refl
    where
      here : (found : Option ℕ) → choose table p ≡ found → Chooses t cs table p found
      here found is = subst (λ (q : Point). Chooses t cs table q found) (same_point p range)
          (subst (λ (o : Option ℕ). Chooses t cs table (in_range p) o) is (is_choice table p))

      by : (found : Option ℕ) → choose table p ≡ found → IsTaken table p
      by None is = absurd (matched (here None is))
      by (Some number) is = taken_as table number p is (here (Some number) is)

  -- ---- a node

  module _ (table at x : ℕ) (k : IsTaken table (point_at bytes at x)) where
    abbrev os : List Operand
    os = k.ctor.operands

    abbrev pattern : Pattern
    pattern = k.placed.1.pattern

    abbrev actions : List Action
    actions = written k.placed.1.actions

    abbrev m : Meaning
    m = said t os pattern actions

    says_so : says t cs k.number ≡ Some m
    says_so = ap₂ (said_by t) k.ctor_is k.placed_is

    chosen_here : chosen_at i table at x ≡ Some (chosen k.number m)
    chosen_here = ap (λ (o : Option ℕ). option_and_then (λ number. with_meaning number (says t cs number)) o) k.picked ∙ ap (with_meaning k.number) says_so

    plain : IsPlain t cs k.number k.ctor
    plain = sure.plain k.number k.ctor k.ctor_is

    abbrev row : Row
    row = (k.ctor, k.placed)

    among : Contains (all_rows t cs) row
    among = beside t.constructors cs k.number k.ctor k.placed k.ctor_is k.placed_is

    is_own : is_of table row ≡ true
    is_own = same k.ctor.table table k.own
      where
        same : (a b : ℕ) → a ≡ b → (a == b) ≡ true
        same a b h = grind arith

    below : table < length t.tables
    below = subst (λ (n : ℕ). n < length t.tables) k.own (list.below k.number k.ctor k.ctor_is)

    grouped : Contains (group (all_groups t cs) table) row
    grouped = subst (λ (rs : List Row). Contains rs row) (sym (group_at (length t.tables) table (all_rows t cs) below))
        (in_filter (is_of table) (all_rows t cs) row is_own among)

    -- the bytes of the constructor are within those of the table
    row_within : (levels : ℕ) → row_bytes t (bound levels) row ≤ bound (suc levels) table
    unfolding level
    row_within levels = greatest_member (row_bytes t (bound levels)) row (group (all_groups t cs) table) grouped

    -- ---- its only operand that is a table

    module _ (o : Operand) (only : table_operands os ≡ o ∷ []) where
      kept : Contains (table_operands os) o
      kept = subst (λ (l : List Operand). Contains l o) (sym only) (0, omega arith, refl)

      abbrev child : ℕ
      child = table_in o.means

      abbrev place : ℕ
      place = or_start (bare_place o.name (leaves t os (length_of os []) 0 pattern))

      is_child : o.means ≡ means.Table child
      is_child = is_table_of o.means (passes_filter (λ (o : Operand). means_table o.means) os o kept)

      stands_alone : IsAlone all os pattern o
      stands_alone =
          let h = subst (λ (l : List Operand). AllByRecursion (IsAlone all os pattern) l) only (alone k.number k.ctor k.placed k.ctor_is k.placed_is) in
          h.0

      -- it ends within the bytes of the constructor
      inside : (levels : ℕ) → place + bound levels child ≤ row_bytes t (bound levels) row
      inside levels = operand_inside t os pattern (bound levels) _ o child (agree k.number k.ctor k.placed k.ctor_is k.placed_is) stands_alone.first stands_alone.alone is_child

      edge : Contains (successors g table) child
      edge =
          let named_here : Contains (rows.table_of o.means) child =
          subst (λ (m : Means). Contains (rows.table_of m) child) (sym is_child) (0, omega arith, refl) in
          let of_ctor = in_gathered (λ (o : Operand). rows.table_of o.means) os o child (was_there (λ (o : Operand). means_table o.means) os o kept) named_here in
          subst (λ (l : List ℕ). Contains l child) (sym (tables_at (all_groups t cs) table))
          (in_gathered (λ (r : Row). tables_of r.0) (group (all_groups t cs) table) row child grouped of_ctor)

      slots : m.slots ≡ slot_of t os pattern o ∷ []
      slots = ap (map (slot_of t os pattern)) only

      examined_so : (other at_first : ℕ) → IsExamined t cs k.number other at_first → IsExamined t cs k.number child place
      examined_so other at_first ex =
          let same : ex.said ≡ m = same_Some ex.said m (sym ex.says_so ∙ says_so) in
          let placed_so : at_first ≡ place = ex.place_is ∙ ap first_at (sym ex.first ∙ ap (λ (m : Meaning). m.slots) same ∙ slots) in
          record {
            said = m;
            says_so = says_so;
            at = λ lengths. or_start (bare_place o.name (leaves t os (length_of os lengths) 0 pattern));
            rest = [];
            first = slots;
            place_is = refl;
            near = subst (λ (n : ℕ). n ≤ 15) placed_so ex.near;
            quiet = plain.quiet;
          }

      examined : IsExamined t cs k.number child place
      examined = let e = ap (λ (l : List Operand). length l) only in let some = plain.examined (omega (arith, e)) in examined_so some.0 some.1 some.2

      -- some constructor of the operand's table has the point at its place
      matched_behind : at + place ≤ 255 → x < 2 ^ 64 → IsGap t cs child (point_at bytes (at + place) x) → ⊥
      matched_behind within fits gap = sure.no_holes k.number child place examined (point_at bytes at x) (point_at bytes (at + place) x) (record {
        chosen = k.chosen_so;
        follows = (windows_follow bytes are at place examined.near (omega (arith, within, long)), refl);
        gap = gap;
        parent_range = in_bits at x (omega (arith, within)) fits;
        child_range = in_bits (at + place) x within fits;
      })

  -- ---- all nodes

  -- A node grows where some constructor of its table has the point, its bytes are within the window, and the tables above it
  -- and the levels that are left are together as many as there are tables.
  all_grow : (levels table at x : ℕ) (us : List ℕ) → x < 2 ^ 64 → AreAbove g us table → length us + levels ≡ length g → at + bound levels table ≤ 255
      → (IsGap t cs table (point_at bytes at x) → ⊥) → Grows i (grow i levels table at x)
  all_grow zero table at x us fits above left short matched =
      let k = taken_at table (point_at bytes at x) (in_bits at x (omega (arith, short)) fits) matched in
      let few = few_above g none us table (let b = below table at x k in omega (arith, b, nodes)) above in
      absurd (omega (arith, few, left))
  all_grow (suc levels) table at x us fits above left short matched =
      let k = taken_at table (point_at bytes at x) (in_bits at x (omega (arith, short)) fits) matched in
      let its = m table at x k in
      let c = k.ctor in
      let early = acts_quiet t c.operands _ (site_at i k.number at [] x 0) (written k.placed.1.actions) x []
      ((plain table at x k).quiet c k.placed k.ctor_is k.placed_is) in
      chosen_grows i levels table at x k.number its early.0 (chosen_here table at x k) (says_so table at x k)
      (late_served t c.operands k.placed.1.pattern (written k.placed.1.actions)) early.1
      (by k (table_operands c.operands) refl (plain table at x k).single
      (λ child place. all_grow levels child (at + place) x (table ∷ us) fits))
    where
      by : (k : IsTaken table (point_at bytes at x)) (l : List Operand) → table_operands k.ctor.operands ≡ l → length (table_operands k.ctor.operands) ≤ 1
          → ((child place : ℕ) → AreAbove g (table ∷ us) child → suc (length us) + levels ≡ length g → at + place + bound levels child ≤ 255
          → (IsGap t cs child (point_at bytes (at + place) x) → ⊥) → Grows i (grow i levels child (at + place) x))
          → Stands i (operands (grow i levels) (map (slot_of t k.ctor.operands k.placed.1.pattern) (table_operands k.ctor.operands)) at [] x)
      by k [] is few rest =
          subst (λ (l : List Operand). Stands i (operands (grow i levels) (map (slot_of t k.ctor.operands k.placed.1.pattern) l) at [] x)) (sym is)
          (none_stands i (grow i levels) at x)
      by k (o ∷ []) is few rest =
          let next = child table at x k o is in
          let there = place table at x k o is in
          let b = below table at x k in
          let inner = inside table at x k o is levels in
          let outer = row_within table at x k levels in
          subst (λ (l : List Operand). Stands i (operands (grow i levels) (map (slot_of t k.ctor.operands k.placed.1.pattern) l) at [] x)) (sym is)
          (one_stands i (grow i levels) next (λ lengths. or_start (bare_place o.name (leaves t k.ctor.operands (length_of k.ctor.operands lengths) 0 k.placed.1.pattern))) at x
          (rest next there (one_above g none us table next (omega (arith, b, nodes)) (edge table at x k o is) above) (omega (arith, left))
          (omega (arith, inner, outer, short)) (matched_behind table at x k o is (omega (arith, inner, outer, short)) fits)))
      by k (o ∷ other ∷ l) is few rest = absurd (let e = ap (λ (l : List Operand). length l) is in omega (arith, e, few))

  -- ---- the whole

  root_grows : (context : ℕ) → context < 2 ^ 64 → Grows i (grow i (length t.tables) 0 0 context)
  root_grows context fits =
      let range = in_bits 0 context (omega arith) fits in
      let matched = sure.whole (point_at bytes 0 context) range in
      let k = taken_at 0 (point_at bytes 0 context) range matched in
      let most : bound (length g) 0 ≤ 255 = is_at_most t cs late (row 0 0 context k) (among 0 0 context k) (is_own 0 0 context k) in
      let short : bound (length t.tables) 0 ≤ 255 = subst (λ (n : ℕ). bound n 0 ≤ 255) nodes most in
      all_grow (length t.tables) 0 0 context [] fits (none_above g 0) (omega (arith, nodes)) (omega (arith, short)) matched

  served : (context : ℕ) → context < 2 ^ 64 → IsServed (decoded t cs choose bytes address context)
  unfolding decoded
  served context fits =
      let root = root_grows context fits in
      let behind : Grown → ℕ = λ root. address_in t (address + root.node.length) in
      let whole : Grown → Trees Begun = λ root. tree root.node root.below no_tree in
      let rest : Grown → Result Decoded Fault =
      λ root. finish i (behind root) (whole root) [] >>= λ all. Ok (decoded_of root.node.length (behind root) all) in
      subst (λ (r : Result Grown Fault). IsServed (r >>= rest)) (sym root.1)
      (then_served (finish i (behind root.0) (whole root.0) []) _ (finish_served i (behind root.0) (whole root.0) [] root.2) (λ all. tt))

pub sure_is_matched : SureIsMatched
sure_is_matched items t sizes binds sure choose is_choice bytes are long address context fits table at is =
    let cs = constructors_of items in
    let taken = bound_are_taken items t sizes binds in
    let tables = (whole_text items).tables in
    let alone = taken_alone items t taken in
    subst (λ (r : Result Decoded Fault). IsServed r) is
    (served t cs (tables_listed items t taken) (taken_names_agree items t taken) (is_whole items t taken).none tables
    (λ k c d there beside. pair_at (TablesAlone tables) t.constructors cs k c d there beside alone)
    sure choose is_choice bytes are long address context fits)
