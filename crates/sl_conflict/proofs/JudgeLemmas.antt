-- Tables judged one by one, each at its first constructor.
use Rattle.std.proofs.Common.{◌≡◌, ℕ, zero, suc, ◌+◌, ◌<◌, ◌≤◌, ◌⊎◌, inl, inr, List, [], ◌∷◌, length, get_or, Some, Result, Ok, Err, refl, sym, ap, ◌∙◌, subst, arith}
use Rattle.std.specs.Prelude.{slice_get, option_map, All, IfErr}
use Rattle.std.proofs.lemmas.Bool.{cases_eq}
use Rattle.std.proofs.lemmas.List.{length-map}
use Rattle.std.proofs.lemmas.Option.{same_Some, slice_get-get_or, slice_get-map, slice_get_within}
use Rattle.sl_cube_sets.specs.Reports.{IsReport}
use Rattle.sl_cube_sets.specs.declared.CubeSet.{CubeSet}
use Rattle.sl_spec.specs.Tables.{Ctor}
use Rattle.sl_conflict.specs.Ambiguity.{AreSettled, IsOf, IsTableSettled, Tells, has_in}
use Rattle.sl_conflict.specs.Judged.{BeginsAt, IsJudged, IsReportAt, IsReportOf}
use Rattle.sl_conflict.specs.Kept.{AreTablesOf, HasChoices, IsPaired}
use Rattle.sl_conflict.specs.Rows.{Row, of_table, rows}
use Rattle.sl_conflict.specs.declared.judging.ConflictError.{ConflictError}
use Rattle.sl_conflict.specs.declared.judging.ConflictError.TheVariants.{Ambiguous, NoMemory}
use Rattle.sl_conflict.specs.declared.table_sets.TableSets.{TableSets}
use Rattle.sl_conflict.proofs.AmbiguityLemmas.{of_one}
use Rattle.sl_conflict.proofs.RowLemmas.{down, number_is, row_is_of, some_below, up, keeps_order}
use Rattle.sl_conflict.proofs.SpreadLemmas.{gathered, made_of, Stands, report_spread, spread, stands_up}

pub err_then : {A E : Type 0} {P Q : E → Type 0} (r : Result A E) → IfErr r P → ((e : E) → P e → Q e) → IfErr r Q
err_then (Ok a) h f = tt
err_then (Err e) h f = f e h

-- ---- one table

pub judged_here : (tables : List TableSets) (t n : ℕ) (kept : TableSets) → slice_get tables t ≡ Some kept → HasChoices kept → IsJudged tables t n
judged_here tables t n kept there has = λ k begins. subst (λ (x : TableSets). HasChoices x) (same_Some kept k (sym there ∙ begins.kept_is)) has

pub report_here : (tables : List TableSets) (t n : ℕ) (kept : TableSets) → slice_get tables t ≡ Some kept → slice_get kept.ctors.items 0 ≡ Some n
    → (error : ConflictError) → IsReportOf kept t error → IsReportAt tables t n error
report_here tables t n kept there first (Ambiguous u a b both apart) h = (kept, record { kept_is = there; first_is = first }, h.0, h.1)
report_here tables t n kept there first NoMemory h = tt

-- ---- the first constructor of a table

some_first : (xs : List Row) → (xs ≡ []) ⊎ ((r : Row) × (slice_get xs 0 ≡ Some r))
some_first [] = inl refl
some_first (x ∷ xs) = inr (x, refl)

module _ (ctors : List Ctor) (sets : List CubeSet) where
  abbrev pub all : List Row
  all = rows ctors sets

  -- a table without constructors is settled
  none_settled : (t : ℕ) → of_table t all ≡ [] → IsTableSettled has_in all t
  none_settled t none = λ p range j has.
      let there = down t all j has.0 has.1 has.2.0 in
      let never : slice_get {X = Row} [] there.0 ≡ Some has.0 = ap (λ (l : List Row). slice_get l there.0) (sym none) ∙ there.1 in absurd cc

  -- the first of a table's constructors stands no later than any other
  first_least : (t n : ℕ) (first r : Row) → slice_get (of_table t all) 0 ≡ Some first → slice_get all n ≡ Some r → r.table ≡ t → first.number ≤ n
  first_least t n first r e at of =
      let there = down t all n r at of in
      let f = up t all 0 first e in
      let number : first.number ≡ f.0 = number_is ctors sets f.0 first f.1 in
      least there.0 there.1 number
    where
      least : (i : ℕ) → slice_get (of_table t all) i ≡ Some r → first.number ≡ (up t all 0 first e).0 → first.number ≤ n
      least zero is number =
          let same : first ≡ r = same_Some first r (sym e ∙ is) in
          let a = ap (λ (x : Row). x.number) same in
          let b = number_is ctors sets n r at in omega arith
      least (suc i) is number =
          let o = keeps_order t all 0 (suc i) first r (omega arith) e is in
          let a = number_is ctors sets o.0 first o.3 in
          let b = number_is ctors sets o.1 r o.4 in
          let d = number_is ctors sets n r at in
          let than = o.2 in omega arith

  -- Each table that has a constructor before this number is settled.
  pub record AreJudged (count n : ℕ) : Type 0 where
    pub settled : (t c : ℕ) → t < count → c < n → IsOf ctors t c → IsTableSettled has_in all t

  -- a row stands at the index of a constructor of its table
  row_of : (c : ℕ) (r : Row) → slice_get all c ≡ Some r → IsOf ctors r.table c
  row_of c r e = row_is_of ctors sets c r e

  first_of : (t : ℕ) (first : Row) → slice_get (of_table t all) 0 ≡ Some first → IsOf ctors t first.number
  first_of t first e =
      let there = up t all 0 first e in
      let at = row_is_of ctors sets there.0 first there.1 in
      subst (λ n. IsOf ctors t n) (sym (number_is ctors sets there.0 first there.1)) (record { ctor = at.ctor; ctor_is = at.ctor_is; of_table = at.of_table ∙ there.2 })

  -- a table of a constructor, of which an earlier one or this one is the first
  not_after : (t n : ℕ) (first : Row) → IsOf ctors t n → slice_get (of_table t all) 0 ≡ Some first → (n < first.number) → ⊥
  not_after t n first is e after =
      let there = up t all 0 first e in
      let number : first.number ≡ there.0 = number_is ctors sets there.0 first there.1 in
      let row = some_below ctors sets n there.0 first there.1 (omega arith) in
      let of = row_is_of ctors sets n row.0 row.1 in
      let least = first_least t n first row.0 e row.1 (of_one ctors row.0.table t n of is) in
      omega arith

  begins : (tables : List TableSets) (count t n : ℕ) (kept : TableSets) (first : Row) → AreTablesOf count all tables → slice_get tables t ≡ Some kept
      → slice_get (of_table t all) 0 ≡ Some first → first.number ≡ n → BeginsAt tables t n kept
  begins tables count t n kept first are at e number = record {
    kept_is = at;
    first_is = ap (λ (l : List ℕ). slice_get l 0) (are.each t kept at).ctors ∙ slice_get-map (λ (r : Row). r.number) (of_table t all) 0
        ∙ ap (option_map (λ (r : Row). r.number)) e ∙ ap Some number;
  }

  some_at : (tables : List TableSets) (t : ℕ) → t < length tables → (k : TableSets) × (slice_get tables t ≡ Some k)
  some_at [] t below = absurd (omega arith)
  some_at (k ∷ tables) zero below = (k, refl)
  some_at (k ∷ tables) (suc t) below = some_at tables t (omega arith)

  pub one_judged : (tables : List TableSets) (count n : ℕ) (ctor : Ctor) → AreTablesOf count all tables → slice_get ctors n ≡ Some ctor
      → IsJudged tables ctor.table n → AreJudged count n → AreJudged count (n + 1)
  one_judged tables count n ctor are at judged so = record {
    settled = λ t c below less is. elim (cases_eq c n) [
      | inr before ↦ so.settled t c below (omega arith) is
      | inl here ↦
          let is_n : IsOf ctors t n = subst (λ x. IsOf ctors t x) here is in
          let same : ctor.table ≡ t = of_one ctors ctor.table t n (record { ctor = ctor; ctor_is = at; of_table = refl }) is_n in
          elim (some_first (of_table t all)) [
            | inl none ↦ none_settled t none
            | inr first ↦ elim (cases_eq first.0.number n) [
              | inl first_here ↦
                  let kept = some_at tables t (omega (arith, are.counted)) in
                  let has = subst (λ x. IsJudged tables x n) same judged kept.0 (begins tables count t n kept.0 first.0 are kept.1 first.1 first_here) in
                  settled_of tables count t kept.0 are kept.1 has
              | inr other ↦
                  let after = not_after t n first.0 is_n first.1 in
                  so.settled t first.0.number below (less_of first.0.number n other after) (first_of t first.0 first.1)
            ]
          ]
    ];
  }
    where
      less_of : (a b : ℕ) → (a ≡ b → ⊥) → (b < a → ⊥) → a < b
      less_of a b f s = grind arith

      settled_of : (tables : List TableSets) (count t : ℕ) (kept : TableSets) → AreTablesOf count all tables → slice_get tables t ≡ Some kept → HasChoices kept → IsTableSettled has_in all t
      settled_of tables count t kept are at has = spread all t (number_is ctors sets) kept.sets.items (are.each t kept at).sets has

  pub none_judged : (count : ℕ) → AreJudged count 0
  none_judged count = record { settled = λ t c below less is. absurd (omega arith) }

  pub all_judged : (count n : ℕ) → length ctors ≤ n → AreJudged count n → AreSettled has_in all count
  all_judged count n end so = λ t below p range j has.
      let is = row_of j has.0 has.1 in
      let within = slice_get_within ctors j is.ctor is.ctor_is in
      so.settled t j below (omega arith) (record { ctor = is.ctor; ctor_is = is.ctor_is; of_table = is.of_table ∙ has.2.0 }) p range j has

  pub first_ambiguous : (tables : List TableSets) (count n : ℕ) (ctor : Ctor) → AreTablesOf count all tables → slice_get ctors n ≡ Some ctor
      → AreJudged count n → (error : ConflictError) → IsReportAt tables ctor.table n error → Tells ctors count all error
  first_ambiguous tables count n ctor are at so NoMemory h = tt
  first_ambiguous tables count n ctor are at so (Ambiguous u a b both apart) h =
      let kept = h.0 in
      let on = h.3 in
      let first = stands on.report.first a kept h.1.kept_is on.first_is in
      let second = stands on.report.second b kept h.1.kept_is on.second_is in
      record {
        among = omega (arith, slice_get_within tables ctor.table kept h.1.kept_is, are.counted, h.2);
        report = subst (λ t. IsReport (has_in t) all (record { both = both; first = a; second = b; apart = apart })) (sym h.2)
            (subst (λ x. IsReport (has_in ctor.table) all (record { both = both; first = a; second = b; apart = x })) on.apart_is
            (subst (λ x. IsReport (has_in ctor.table) all (record { both = x; first = a; second = b; apart = on.report.apart })) on.both_is
            (report_spread all ctor.table (number_is ctors sets) kept.sets.items (are.each ctor.table kept h.1.kept_is).sets on.report a b first second on.right)));
        settled_before = λ t below before.
            so.settled t before.number below (before.before n (record { ctor = ctor; ctor_is = at; of_table = sym h.2 })) before.is_of;
      }
    where
      stands : (i c : ℕ) (kept : TableSets) → slice_get tables ctor.table ≡ Some kept → slice_get kept.ctors.items i ≡ Some c → Stands all ctor.table (number_is ctors sets) i c
      stands i c kept there is =
          let made = made_of (λ (r : Row). r.number) (slice_get (of_table ctor.table all) i) c
          (sym (slice_get-map (λ (r : Row). r.number) (of_table ctor.table all) i) ∙ ap (λ (l : List ℕ). slice_get l i) (sym (are.each ctor.table kept there).ctors) ∙ is) in
          subst (λ x. Stands all ctor.table (number_is ctors sets) i x) made.2 (stands_up all ctor.table (number_is ctors sets) i made.0 made.1)

  -- ---- all tables

  pub all_choices : (tables : List TableSets) (count : ℕ) → AreTablesOf count all tables → AreSettled has_in all count → All HasChoices tables
  all_choices tables count are settled = λ t d below.
      let at = slice_get-get_or tables t d below in
      gathered all t (number_is ctors sets) (get_or tables t d).sets.items (are.each t (get_or tables t d) at).sets (settled t (omega (arith, are.counted)))

pub all_paired : (rs : List Row) (tables : List TableSets) (count : ℕ) → AreTablesOf count rs tables → All IsPaired tables
all_paired rs tables count are = λ t d below.
    let is = are.each t (get_or tables t d) (slice_get-get_or tables t d below) in
    ap (λ (l : List ℕ). length l) is.ctors ∙ length-map (of_table t rs) (λ (r : Row). r.number)
    ∙ sym (length-map (of_table t rs) (λ (r : Row). r.set)) ∙ ap (λ (l : List CubeSet). length l) (sym is.sets)
