-- Each instruction has from 1 to 255 bytes.
use Rattle.std.proofs.Common.{◌≡◌, ℕ, zero, suc, ◌+◌, ◌<◌, ◌≤◌, ◌==◌, true, List, [], length, Option, Some, None, Ok, refl, sym, ap, subst, ◌∙◌, arith}
use Rattle.std.specs.Prelude.{IfOk, option_and_then, slice_get}
use Rattle.std.specs.List.{Contains, filter}
use Rattle.std.proofs.lemmas.List.{length-map}
use Rattle.sl_ast.specs.Trees.{Constructor}
use Rattle.sl_ast.specs.Unfolding.{Placed, written}
use Rattle.sl_spec_constructors.proofs.MemberLemmas.{in_filter}
use Rattle.sl_spec_constructors.specs.Listed as listed
use Rattle.sl_spec_constructors.specs.Listed.{AreListed}
use Rattle.sl_cube.specs.declared.Point.{Point}
use Rattle.sl_decode_meaning.specs.Actions.{address_in}
use Rattle.sl_decode_meaning.specs.Decoding.{Chosen, Decoded, Ended, Grown, Input, chosen, decoded, decoded_of, ended, finish, grow, point_at, with_meaning}
use Rattle.sl_decode_meaning.specs.Laws.{input}
use Rattle.sl_decode_meaning.specs.Choices.{Choice}
use Rattle.sl_decode_meaning.specs.Meanings.{Meaning, said, said_by, says, slot_of, table_of}
use Rattle.sl_decode_meaning.specs.Outcomes.{◌>>=◌}
use Rattle.sl_decode_meaning.specs.Places.{length_of, table_operands}
use Rattle.sl_decode_meaning.specs.Trees.{none, tree}
use Rattle.sl_decode_lengths.proofs.BoundLemmas.{AreWithin, Between, beside, greatest_member, least_member, within_map}
use Rattle.sl_decode_lengths.proofs.GrowLemmas.{NodesFit, Passes, grown_fits, if_ok, then_any, then_ok}
use Rattle.sl_decode_lengths.proofs.PatternLemmas.{operands_fit, pattern_fits}
use Rattle.sl_decode_lengths.proofs.RuleLemmas.{all_groups, all_rows, has_byte, is_at_most}
use Rattle.sl_decode_lengths.specs.Laws.{ChoosesOwn, InstructionsHaveBytes}
use Rattle.sl_decode_lengths.specs.Naming.{NamesAgree}
use Rattle.sl_base_graphs.specs.Levels.{level}
use Rattle.sl_spec.specs.Tables.{Ctor}
use Rattle.sl_spec.specs.declared.tables.Tables.{Tables}
use Rattle.sl_spec_tables.proofs.RowLemmas.{group_at, groups_length}
use Rattle.sl_spec_tables.specs.Lengths.{row_bytes, step, table_amount}
use Rattle.sl_spec_tables.specs.Rows.{Row, graph, group, is_of, tables_in}
use Rattle.sl_spec_tables.specs.TableRules.{late_fault, most_bytes}
use Rattle.sl_spec_tables.specs.declared.quantities.Quantity.{Quantity}
use Rattle.sl_spec_tables.specs.declared.quantities.Quantity.TheVariants.{Least, Greatest}

at_least : (a b c : ℕ) → a ≤ b → b ≤ c → a ≤ c
at_least a b c h e = omega arith

-- The number is within the bounds of a constructor of the table, where those of tables are f and g.
pub record HasRow (t : Tables) (cs : List (Placed Constructor)) (table : ℕ) (f g : ℕ → ℕ) (n : ℕ) : Type 0 where
  pub row : Row
  pub among : Contains (all_rows t cs) row
  pub own : is_of table row ≡ true
  pub below : table < length t.tables
  pub fits : Between (row_bytes t f row) n (row_bytes t g row)

-- Rules 35 and 37 of a length.
abbrev IsLong : ℕ → Type 0
IsLong n = (1 ≤ n) × (n ≤ most_bytes)

-- ---- constructors that are chosen

abbrev meaning_or : Meaning → Option Chosen → Meaning
meaning_or m None = m
meaning_or m (Some (chosen ctor own)) = own

module _ (t : Tables) (cs : List (Placed Constructor)) (list : AreListed t cs) (agree : NamesAgree t cs) where
  said_fits : (table number : ℕ) (c : Ctor) (w : Placed Constructor) → slice_get t.constructors number ≡ Some c → slice_get cs number ≡ Some w
      → listed.is_of table (slice_get t.constructors number) ≡ true → (f g : ℕ → ℕ) (lengths : List ℕ)
      → AreWithin table_of f g (said t c.operands w.1.pattern (written w.1.actions)).slots lengths
      → HasRow t cs table f g ((said t c.operands w.1.pattern (written w.1.actions)).length lengths)
  said_fits table number c w is js own f g lengths within =
      let its : (c.table == table) ≡ true = ap (listed.is_of table) (sym is) ∙ own in
      record {
        row = (c, w);
        among = beside t.constructors cs number c w is js;
        own = its;
        below = subst (λ (u : ℕ). u < length t.tables) (same c.table table its) (list.below number c is);
        fits = pattern_fits t c.operands f g (length_of c.operands lengths)
            (operands_fit f g c.operands lengths (within_map f g table_of (slot_of t c.operands w.1.pattern) (table_operands c.operands) lengths within))
            w.1.pattern (agree number c w is js);
      }
    where
      same : (a b : ℕ) → (a == b) ≡ true → a ≡ b
      same a b h = grind arith

  meaning_fits : (table number ctor : ℕ) (m : Meaning) (c : Option Ctor) (w : Option (Placed Constructor)) → slice_get t.constructors number ≡ c → slice_get cs number ≡ w
      → listed.is_of table (slice_get t.constructors number) ≡ true → with_meaning number (said_by t c w) ≡ Some (chosen ctor m)
      → (f g : ℕ → ℕ) (lengths : List ℕ) → AreWithin table_of f g m.slots lengths → HasRow t cs table f g (m.length lengths)
  meaning_fits table number ctor m None w is js own h f g lengths within = absurd (let e : ⊥ = cc in e)
  meaning_fits table number ctor m (Some c) None is js own h f g lengths within = absurd (let e : ⊥ = cc in e)
  meaning_fits table number ctor m (Some c) (Some w) is js own h f g lengths within =
      let it = said t c.operands w.1.pattern (written w.1.actions) in
      let e : it ≡ m = ap (meaning_or it) h in
      subst (λ (x : Meaning). AreWithin table_of f g x.slots lengths → HasRow t cs table f g (x.length lengths)) e
      (said_fits table number c w is js own f g lengths) within

  module _ (choose : Choice) (own : ChoosesOwn t choose) where
    choice_fits : (table : ℕ) (p : Point) (found : Option ℕ) (ctor : ℕ) (m : Meaning) → choose table p ≡ found
        → option_and_then (λ number. with_meaning number (says t cs number)) found ≡ Some (chosen ctor m)
        → (f g : ℕ → ℕ) (lengths : List ℕ) → AreWithin table_of f g m.slots lengths → HasRow t cs table f g (m.length lengths)
    choice_fits table p None ctor m is h f g lengths within = absurd (let e : ⊥ = cc in e)
    choice_fits table p (Some number) ctor m is h f g lengths within =
        meaning_fits table number ctor m (slice_get t.constructors number) (slice_get cs number) refl refl (own table p number is) h f g lengths within

    module _ (bytes : List ℕ) (address : ℕ) where
      abbrev i : Input
      i = input choose (says t cs) bytes address

      passes : (table : ℕ) (f g : ℕ → ℕ) → Passes i table f g (HasRow t cs table f g)
      passes table f g at x ctor m is lengths within =
          choice_fits table (point_at bytes at x) (choose table (point_at bytes at x)) ctor m refl is f g lengths within

      -- ---- level by level

      abbrev bound : Quantity → ℕ → ℕ → ℕ
      bound quantity k table = level (step quantity t) (group (all_groups t cs)) k table

      least_at : (table : ℕ) (f g : ℕ → ℕ) (n : ℕ) → HasRow t cs table f g n → step Least t f (group (all_groups t cs) table) ≤ n
      least_at table f g n h =
          let e = group_at (length t.tables) table (all_rows t cs) h.below in
          let c = in_filter (is_of table) (all_rows t cs) h.row h.own h.among in
          subst (λ (rs : List Row). step Least t f rs ≤ n) (sym e)
          (at_least _ (row_bytes t f h.row) n (least_member (row_bytes t f) h.row (filter (is_of table) (all_rows t cs)) c) h.fits.0)

      greatest_at : (table : ℕ) (f g : ℕ → ℕ) (n : ℕ) → HasRow t cs table f g n → n ≤ step Greatest t g (group (all_groups t cs) table)
      greatest_at table f g n h =
          let e = group_at (length t.tables) table (all_rows t cs) h.below in
          let c = in_filter (is_of table) (all_rows t cs) h.row h.own h.among in
          subst (λ (rs : List Row). n ≤ step Greatest t g rs) (sym e)
          (at_least n (row_bytes t g h.row) _ h.fits.1 (greatest_member (row_bytes t g) h.row (filter (is_of table) (all_rows t cs)) c))

      rows_fit : (levels : ℕ) (f g : ℕ → ℕ) → NodesFit f g (grow i levels) → (table at x : ℕ) → IfOk (grow i (suc levels) table at x) (λ n. HasRow t cs table f g n.node.length)
      rows_fit levels f g fit table at x = grown_fits i table f g (HasRow t cs table f g) levels fit (passes table f g) at x

      -- a node has as many bytes as after any number of rounds at least, and as many as after one round for each level at most
      nodes_fit : (levels k : ℕ) → NodesFit (bound Least k) (bound Greatest levels) (grow i levels)
      unfolding grow level
      nodes_fit zero k table at x = tt
      nodes_fit (suc levels) zero table at x =
          if_ok (grow i (suc levels) table at x) (λ n. HasRow t cs table (bound Least zero) (bound Greatest levels) n.node.length) (λ n. Between 0 n.node.length (bound Greatest (suc levels) table))
          (rows_fit levels (bound Least zero) (bound Greatest levels) (nodes_fit levels zero) table at x)
          (λ n h. (omega arith, greatest_at table (bound Least zero) (bound Greatest levels) n.node.length h))
      nodes_fit (suc levels) (suc k) table at x =
          if_ok (grow i (suc levels) table at x) (λ n. HasRow t cs table (bound Least k) (bound Greatest levels) n.node.length) (λ n. Between (bound Least (suc k) table) n.node.length (bound Greatest (suc levels) table))
          (rows_fit levels (bound Least k) (bound Greatest levels) (nodes_fit levels k) table at x)
          (λ n h. (least_at table (bound Least k) (bound Greatest levels) n.node.length h, greatest_at table (bound Least k) (bound Greatest levels) n.node.length h))

      -- ---- the root

      module _ (kept : late_fault t cs ≡ None) where
        root_fits : (levels : ℕ) → levels ≡ length (graph (all_groups t cs)) → (at x : ℕ) → IfOk (grow i levels 0 at x) (λ n. IsLong n.node.length)
        unfolding grow level
        root_fits zero is at x = tt
        root_fits (suc levels) is at x =
            let k = length (graph (all_groups t cs)) in
            if_ok (grow i (suc levels) 0 at x) (λ n. HasRow t cs 0 (bound Least k) (bound Greatest levels) n.node.length) (λ n. IsLong n.node.length)
            (rows_fit levels (bound Least k) (bound Greatest levels) (nodes_fit levels k) 0 at x)
            (λ n h. (
              at_least 1 (row_bytes t (table_amount Least t (all_groups t cs)) h.row) n.node.length (has_byte t cs kept h.row h.among h.own) h.fits.0,
              at_least n.node.length (bound Greatest (suc levels) 0) most_bytes (greatest_at 0 (bound Least k) (bound Greatest levels) n.node.length h)
                  (subst (λ (j : ℕ). bound Greatest j 0 ≤ most_bytes) (sym is) (is_at_most t cs kept h.row h.among h.own)),
            ))

long_of : (n after : ℕ) (all : Ended) → (decoded_of n after all).length ≡ n
long_of n after (ended trees commits) = refl

pub instructions_have_bytes : InstructionsHaveBytes
unfolding decoded
instructions_have_bytes t cs choose kept list agree own bytes address context =
    let i = input choose (says t cs) bytes address in
    let levels : length t.tables ≡ length (graph (all_groups t cs)) = sym (length-map (all_groups t cs) tables_in ∙ groups_length (length t.tables) (all_rows t cs)) in
    then_ok (grow i (length t.tables) 0 0 context)
    (λ (root : Grown). finish i (address_in t (address + root.node.length)) (tree root.node root.below none) []
    >>= λ all. Ok (decoded_of root.node.length (address_in t (address + root.node.length)) all))
    (λ n. IsLong n.node.length) (λ (d : Decoded). IsLong d.length)
    (root_fits t cs list agree choose own bytes address kept (length t.tables) levels 0 context)
    (λ root fits. then_any (finish i (address_in t (address + root.node.length)) (tree root.node root.below none) [])
    (λ all. Ok (decoded_of root.node.length (address_in t (address + root.node.length)) all))
    (λ (d : Decoded). IsLong d.length)
    (λ all done. subst IsLong (sym (long_of root.node.length (address_in t (address + root.node.length)) all)) fits))
