-- What rules 35 and 37 say, where rules 32 to 37 are kept.
use Rattle.std.proofs.Common.{◌≡◌, ℕ, zero, suc, ◌+◌, ◌≤◌, ◌==◌, Bool, true, false, true≢false, cond, List, [], ◌∷◌, length, Option, Some, None, refl, sym, ap, ◌∙◌, arith}
use Rattle.std.specs.Prelude.{◌&&◌, find, nat_lt, option_map}
use Rattle.std.specs.List.{Contains}
use Rattle.std.proofs.lemmas.Bool.Decides.{nat_tests}
use Rattle.sl_ast.specs.Trees.{Constructor}
use Rattle.sl_ast.specs.Unfolding.{Placed}
use Rattle.sl_spec.specs.declared.tables.Tables.{Tables}
use Rattle.sl_spec_tables.specs.Lengths.{row_bytes, table_amount}
use Rattle.sl_spec_tables.specs.Rows.{Row, groups, is_of, rows}
use Rattle.sl_spec_tables.specs.TableRules.{broken_at, empty_place, fault_or, first_place, has_default, has_few_nodes, has_instruction, is_short, late_fault, most_bytes, past_most, place_of, reaching_place}
use Rattle.sl_spec_tables.specs.declared.faults.LateFault.{LateFault}
use Rattle.sl_spec_tables.specs.declared.faults.Place.{Place}
use Rattle.sl_spec_tables.specs.declared.faults.Place.TheVariants.{End}
use Rattle.sl_spec_tables.specs.declared.quantities.Quantity.TheVariants.{Least, Greatest}

-- ---- tests

none_by : (test : Row → Bool) (x : Row) (rs : List Row) (b : Bool) → test x ≡ b → option_map place_of (cond b (Some x) (find test rs)) ≡ None
    → ((r : Row) → first_place test rs ≡ None → Contains rs r → test r ≡ false) → (r : Row) → Contains (x ∷ rs) r → test r ≡ false
none_by test x rs true is h later r c = absurd (cc)
none_by test x rs false is h later r (zero, below, here) = ap test (sym here) ∙ is
none_by test x rs false is h later r (suc k, below, here) = later r h (k, omega (arith, below), here)

-- where the first is nowhere, none passes
none_passes : (test : Row → Bool) (rs : List Row) (r : Row) → first_place test rs ≡ None → Contains rs r → test r ≡ false
none_passes test [] r h c = absurd (omega (arith, c.1))
none_passes test (x ∷ rs) r h c = none_by test x rs (test x) refl h (λ q. none_passes test rs q) r c

some_by : (own : Bool) (n : ℕ) → (own && (n == 0)) ≡ false → own ≡ true → 1 ≤ n
some_by true n fails is = grind (arith, nat_tests)
some_by false n fails is = absurd (cc)

-- ---- rules

here_none : (rule : ℕ) (place : Option Place) (other : Option LateFault) → fault_or rule place other ≡ None → place ≡ None
here_none rule None other h = refl
here_none rule (Some p) other h = absurd (let e : ⊥ = cc in e)

behind_none : (rule : ℕ) (place : Option Place) (other : Option LateFault) → fault_or rule place other ≡ None → other ≡ None
behind_none rule None other h = h
behind_none rule (Some p) other h = absurd (let e : ⊥ = cc in e)

module _ (t : Tables) (cs : List (Placed Constructor)) where
  abbrev pub all_rows : List Row
  all_rows = rows t cs

  abbrev pub all_groups : List (List Row)
  all_groups = groups (length t.tables) all_rows

  module _ (kept : late_fault t cs ≡ None) where
    amounts_kept : (empty_place t all_groups all_rows ≡ None) × (broken_at (is_short t all_groups) (first_place (is_of 0) all_rows) ≡ None)
    unfolding late_fault
    amounts_kept =
        let a = behind_none 32 (broken_at (has_default t) (Some End)) _ kept in
        let b = behind_none 33 (broken_at (has_instruction all_rows) (Some End)) _ a in
        let c = behind_none 33 (past_most all_rows) _ b in
        let d = behind_none 34 (reaching_place all_groups all_rows) _ c in
        let e = behind_none 35 (empty_place t all_groups all_rows) _ d in
        let f = behind_none 36 (broken_at (has_few_nodes t all_groups) (first_place (is_of 0) all_rows)) _ e in (
          here_none 35 (empty_place t all_groups all_rows) _ d,
          here_none 37 (broken_at (is_short t all_groups) (first_place (is_of 0) all_rows)) _ f,
        )

    -- 35: a constructor of `instruction` has a byte at least
    pub has_byte : (r : Row) → Contains all_rows r → is_of 0 r ≡ true → 1 ≤ row_bytes t (table_amount Least t all_groups) r
    unfolding empty_place
    has_byte r among own =
        some_by (is_of 0 r) (row_bytes t (table_amount Least t all_groups) r)
        (none_passes (λ r. is_of 0 r && (row_bytes t (table_amount Least t all_groups) r == 0)) all_rows r amounts_kept.0 among) own

    short_by : (n : ℕ) (rs : List Row) (r : Row) → broken_at (nat_lt n (1 + most_bytes)) (first_place (is_of 0) rs) ≡ None → Contains rs r → is_of 0 r ≡ true → n ≤ most_bytes
    short_by n rs r fits among own = by (nat_lt n (1 + most_bytes)) refl fits
      where
        by : (b : Bool) → nat_lt n (1 + most_bytes) ≡ b → broken_at b (first_place (is_of 0) rs) ≡ None → n ≤ most_bytes
        by true is h = grind (arith, nat_tests)
        by false is h = absurd (true≢false (sym own ∙ none_passes (is_of 0) rs r h among))

    -- 37: `instruction` has 255 bytes at most, where it has a constructor
    pub is_at_most : (r : Row) → Contains all_rows r → is_of 0 r ≡ true → table_amount Greatest t all_groups 0 ≤ most_bytes
    unfolding is_short
    is_at_most r among own = short_by (table_amount Greatest t all_groups 0) all_rows r amounts_kept.1 among own
