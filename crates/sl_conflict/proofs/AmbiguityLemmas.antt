-- Ambiguity over anything that has points: what has the same points has the same verdict, there is one verdict, and it can't be that there is none.
use Rattle.std.proofs.Common.{◌≡◌, ℕ, ◌<◌, ◌⊎◌, List, Some, sym, ap, ◌∙◌, subst, inl, inr, arith}
use Rattle.std.specs.Prelude.{slice_get}
use Rattle.std.proofs.lemmas.Bool.{cases_eq, cases_lt, cases_order}
use Rattle.std.proofs.lemmas.Option.{same_Some}
use Rattle.sl_cube.specs.declared.Point.{Point}
use Rattle.sl_cube_sets.specs.Reports.{IsReport}
use Rattle.sl_cube_sets.specs.declared.report.Report.{Report}
use Rattle.sl_cube_sets.proofs.AlikeLemmas.{AreAlike, report_alike, settled_alike}
use Rattle.sl_cube_sets.proofs.OneReport.{report_is_one, settled_has_no_report}
use Rattle.sl_cube_sets.proofs.SomeReport.{some_report}
use Rattle.sl_base_surely.specs.Surely.{Surely}
use Rattle.sl_base_surely.proofs.SurelyLemmas.{IsLeastNumber, surely_each, surely_either, surely_function, surely_least, surely_map, surely_then}
use Rattle.sl_spec.specs.Tables.{Ctor}
use Rattle.sl_conflict.specs.Ambiguity.{AppearsBefore, AreSettled, IsFirstAmbiguous, IsOf, IsTableSettled}

-- ---- the same points

-- Things of two kinds that have the same points in each table.
module _ {X Y : Type 0} (f : ℕ → X → Point → Type 0) (g : ℕ → Y → Point → Type 0) (xs : List X) (ys : List Y) (tables : ℕ)
    (alike : (table : ℕ) → table < tables → AreAlike (f table) (g table) xs ys) where
  -- The tables are settled for both or for neither.
  pub are_settled_alike : AreSettled f xs tables → AreSettled g ys tables
  are_settled_alike settled = λ table below. settled_alike (f table) (g table) xs ys (alike table below) (settled table below)

  -- The first ambiguous table and the report on it are the same for both.
  pub first_ambiguous_alike : (ctors : List Ctor) (table : ℕ) (told : Report) → IsFirstAmbiguous f xs ctors tables table told → IsFirstAmbiguous g ys ctors tables table told
  first_ambiguous_alike ctors table told first = record {
    among = first.among;
    report = report_alike (f table) (g table) xs ys (alike table first.among) told first.report;
    settled_before = λ other below before. settled_alike (f other) (g other) xs ys (alike other below) (first.settled_before other below before);
  }

-- ---- one verdict

-- a constructor is of one table
pub of_one : (ctors : List Ctor) (t u c : ℕ) → IsOf ctors t c → IsOf ctors u c → t ≡ u
of_one ctors t u c a b =
    let same : a.ctor ≡ b.ctor = same_Some a.ctor b.ctor (sym a.ctor_is ∙ b.ctor_is) in
    sym a.of_table ∙ ap (λ (x : Ctor). x.table) same ∙ b.of_table

-- Where all tables are settled, none is ambiguous.
pub settled_not_ambiguous : {X : Type 0} (has : ℕ → X → Point → Type 0) (xs : List X) (ctors : List Ctor) (tables table : ℕ) (told : Report)
    → AreSettled has xs tables → IsFirstAmbiguous has xs ctors tables table told → ⊥
settled_not_ambiguous has xs ctors tables table told settled first = settled_has_no_report (has table) xs told (settled table first.among) first.report

-- Things of which each that has a point in a table is a constructor of it.
module _ {X : Type 0} (has : ℕ → X → Point → Type 0) (xs : List X) (ctors : List Ctor)
    (of : (table i : ℕ) (x : X) (p : Point) → slice_get xs i ≡ Some x → has table x p → IsOf ctors table i) where
  -- a table with a report has a constructor
  some_ctor : (table : ℕ) (told : Report) → IsReport (has table) xs told → (n : ℕ) × IsOf ctors table n
  some_ctor table told report =
      let there = report.point.here in
      (there.one, of table there.one there.one_has.0 told.both there.one_has.1 there.one_has.2)

  -- of two first ambiguous tables neither begins before the other
  not_earlier : (tables t u m n : ℕ) (told said : Report) → IsFirstAmbiguous has xs ctors tables t told → IsFirstAmbiguous has xs ctors tables u said
      → IsLeastNumber (IsOf ctors t) m → IsLeastNumber (IsOf ctors u) n → m < n → ⊥
  not_earlier tables t u m n told said first second begins next less =
      settled_has_no_report (has t) xs told (second.settled_before t first.among (record { number = m; is_of = begins.here; before = later })) first.report
    where
      later : (k : ℕ) → IsOf ctors u k → m < k
      later k is = elim (cases_lt m k) [
        | inl before ↦ before
        | inr after ↦ absurd (next.none_below k (omega (arith, after, less)) is)
      ]

  same_table : (tables t u : ℕ) (told said : Report) → IsFirstAmbiguous has xs ctors tables t told → IsFirstAmbiguous has xs ctors tables u said → t ≡ u
  same_table tables t u told said first second = elim (cases_eq t u) [
    | inl same ↦ same
    | inr other ↦
        let a = some_ctor t told first.report in
        let b = some_ctor u said second.report in
        absurd (surely_least (IsOf ctors t) a.0 a.1 (λ m. surely_least (IsOf ctors u) b.0 b.1 (λ n. elim (cases_order m.0 n.0) [
          | inl here ↦ other (of_one ctors t u n.0 (subst (λ (k : ℕ). IsOf ctors t k) here m.1.here) n.1.here)
          | inr apart ↦ elim apart [
            | inl less ↦ not_earlier tables t u m.0 n.0 told said first second m.1 n.1 less
            | inr more ↦ not_earlier tables u t n.0 m.0 said told second first n.1 m.1 more
          ]
        ])))
  ]

  -- Two first ambiguous tables are one, with one report.
  pub first_ambiguous_is_one : (tables t u : ℕ) (told said : Report) → IsFirstAmbiguous has xs ctors tables t told → IsFirstAmbiguous has xs ctors tables u said
      → (t ≡ u) × (told ≡ said)
  first_ambiguous_is_one tables t u told said first second =
      let same = same_table tables t u told said first second in
      (same, report_is_one (has t) xs told said first.report (subst (λ (n : ℕ). IsReport (has n) xs said) (sym same) second.report))

  -- ---- some verdict

  -- The constructor is of a table that isn't settled.
  record IsOfUnsettled (tables number : ℕ) : Type 0 where
    table : ℕ
    among : table < tables
    is_of : IsOf ctors table number
    unsettled : IsTableSettled has xs table → ⊥

  -- each table without such a constructor is settled
  settled_without : (tables : ℕ) → ((n : ℕ) → IsOfUnsettled tables n → ⊥) → Surely (AreSettled has xs tables)
  settled_without tables none = surely_each (IsTableSettled has xs) tables (λ t below. λ unsettled. some_report (has t) xs (λ how. elim how [
    | inl settled ↦ unsettled settled
    | inr report ↦
        let ctor = some_ctor t report.0 report.1 in
        none ctor.0 (record { table = t; among = below; is_of = ctor.1; unsettled = unsettled })
  ]))

  -- each table that begins before the first of them is settled
  settled_earlier : (tables n : ℕ) (least : IsLeastNumber (IsOfUnsettled tables) n)
      → Surely ((other : ℕ) → other < tables → AppearsBefore ctors other least.here.table → IsTableSettled has xs other)
  settled_earlier tables n least =
      surely_each (λ other. AppearsBefore ctors other least.here.table → IsTableSettled has xs other) tables (λ other below.
      surely_function (λ before. λ unsettled. least.none_below before.number (before.before n least.here.is_of)
      (record { table = other; among = below; is_of = before.is_of; unsettled = unsettled })))

  some_ambiguous : (tables n : ℕ) → IsLeastNumber (IsOfUnsettled tables) n → Surely ((table : ℕ) × (told : Report) × IsFirstAmbiguous has xs ctors tables table told)
  some_ambiguous tables n least = surely_then (some_report (has least.here.table) xs) (λ how. elim how [
    | inl settled ↦ absurd (least.here.unsettled settled)
    | inr report ↦ surely_map (λ earlier. (
      least.here.table,
      report.0,
      record { among = least.here.among; report = report.1; settled_before = earlier },
    )) (settled_earlier tables n least)
  ])

  -- The tables are all settled, or one of them is the first ambiguous one, with a report.
  pub some_verdict : (tables : ℕ) → Surely (AreSettled has xs tables ⊎ ((table : ℕ) × (told : Report) × IsFirstAmbiguous has xs ctors tables table told))
  some_verdict tables = surely_then (surely_either ((n : ℕ) × IsOfUnsettled tables n)) (λ found. elim found [
    | inl some ↦ surely_then (surely_least (IsOfUnsettled tables) some.0 some.1) (λ least. surely_map (λ first. inr first) (some_ambiguous tables least.0 least.1))
    | inr none ↦ surely_map (λ settled. inl settled) (settled_without tables (λ n unsettled. none (n, unsettled)))
  ])
