-- It can't be that tables have no report.
use Rattle.std.proofs.Common.{◌≡◌, ◌↔◌, ℕ, zero, suc, ◌+◌, ◌<◌, ◌≤◌, inl, inr, Bool, true, false, IsTrue, List, [], ◌∷◌, ◌++◌, length, Option, Some, None, refl, ap, subst, arith}
use Rattle.std.specs.Prelude.{◌&&◌, slice_get}
use Rattle.std.proofs.lemmas.Bool.{false≢true}
use Rattle.std.proofs.lemmas.Option.{same_Some, slice_get_within}
use Rattle.sl_ast.specs.Trees.{Constructor}
use Rattle.sl_ast.specs.Unfolding.{Placed}
use Rattle.sl_base_surely.proofs.SurelyLemmas.{surely, surely_either, surely_map, surely_then}
use Rattle.sl_base_surely.specs.Surely.{Surely}
use Rattle.sl_cube.specs.Points.{InRange}
use Rattle.sl_cube.specs.declared.Point.{Point}
use Rattle.sl_cube_sets.proofs.SomeReport.{some_least_point}
use Rattle.sl_cube_sets.specs.Sets.{IsLeastWhere}
use Rattle.sl_gap.specs.Findings.{TellsFinding, TellsHoleOf, with_hole}
use Rattle.sl_gap.specs.Holes.{HasHole, IsHole}
use Rattle.sl_gap.specs.Reports.{AreHoles, AreShadowed, IsPlain, IsReport, IsSure, Report}
use Rattle.sl_gap.specs.declared.findings.Finding.{Finding}
use Rattle.sl_gap.specs.declared.report.Hole.{Hole}
use Rattle.sl_gap_operands.specs.Operands.{IsExamined}
use Rattle.sl_gap_tables.specs.Gaps.{IsChosen, IsGap, IsShadowed, TellGaps, TellsGap}
use Rattle.sl_gap_tables.specs.Tables.{TellChosen}
use Rattle.sl_spec.specs.Tables.{Ctor}
use Rattle.sl_spec.specs.declared.tables.Tables.{Tables}
use Rattle.sl_gap.proofs.GapLemmas.{FoundFirst, are_shadowed, found_all, found_first, found_more}
use Rattle.sl_gap.proofs.ListLemmas.{UnmarkedFirst, unmarked_all, unmarked_more, unmarked_none}

-- ---- lists

-- A member at each index below the length, each with what it is to have.
abbrev IsListOf : {X : Type 0} → (P : ℕ → X → Type 0) → ℕ → List X → Type 0
IsListOf P n xs = (length xs ≡ n) × ((k : ℕ) (x : _) → slice_get xs k ≡ Some x → P k x)

surely_list : {X : Type 0} (P : ℕ → X → Type 0) → ((k : ℕ) → Surely ((x : X) × P k x)) → (n : ℕ) → Surely ((xs : List X) × IsListOf P n xs)
surely_list P some zero = surely ([], (refl, λ k x is. absurd (cc)))
surely_list {X = X} P some (suc n) =
    surely_then (some 0) (λ one.
    surely_map (λ rest. (one.0 ∷ rest.0, (ap suc rest.1.0, each one rest)))
    (surely_list (λ k. P (suc k)) (λ k. some (suc k)) n))
  where
    each : (one : (x : X) × P 0 x) (rest : (xs : List X) × IsListOf (λ k. P (suc k)) n xs) → (k : ℕ) (x : X) → slice_get (one.0 ∷ rest.0) k ≡ Some x → P k x
    each one rest zero x is = subst (P 0) (same_Some one.0 x is) one.1
    each one rest (suc k) x is = rest.1.1 k x is

member : {X : Type 0} (xs : List X) (i : ℕ) → i < length xs → (x : X) × (slice_get xs i ≡ Some x)
member [] i below = absurd (omega (arith, below))
member (x ∷ xs) zero below = (x, refl)
member (x ∷ xs) (suc i) below = member xs i (omega (arith, below))

-- the numbers without a mark
unmarked : (marks : List Bool) (n : ℕ) → n ≤ length marks → (ids : List ℕ) × UnmarkedFirst marks ids n
unmarked marks zero within = ([], unmarked_none marks)
unmarked marks (suc n) within = add (unmarked marks n (omega (arith, within))) (member marks n (omega (arith, within)))
  where
    next : (ids : List ℕ) → UnmarkedFirst marks ids (n + 1) → UnmarkedFirst marks ids (suc n)
    next ids f = let e : n + 1 ≡ suc n = omega arith in subst (UnmarkedFirst marks ids) e f

    add : (ids : List ℕ) × UnmarkedFirst marks ids n → (mark : Bool) × (slice_get marks n ≡ Some mark) → (ids : List ℕ) × UnmarkedFirst marks ids (suc n)
    add before (true, at) = (before.0, next before.0 (unmarked_more marks before.0 before.0 n true at refl before.1))
    add before (false, at) =
        (before.0 ++ n ∷ [], next (before.0 ++ n ∷ []) (unmarked_more marks before.0 (before.0 ++ n ∷ []) n false at refl before.1))

module _ (t : Tables) (cs : List (Placed Constructor)) where
  -- ---- tables

  some_gap : (table : ℕ) → Surely ((told : Option Point) × TellsGap t cs table told)
  some_gap table = surely_then (surely_either ((p : Point) × InRange p × IsGap t cs table p)) (λ either. elim either [
    | inl gap ↦ surely_map (λ least. (Some least.0, least.1)) (some_least_point (IsGap t cs table) gap.0 gap.1 gap.2)
    | inr none ↦ surely (None, λ p range gap. none (p, range, gap))
  ])

  some_gaps : Surely ((told : List (Option Point)) × TellGaps t cs told)
  some_gaps = surely_map (λ all. (all.0, record { counted = all.1.0; each = all.1.1 })) (surely_list (TellsGap t cs) some_gap (length t.tables))

  -- ---- constructors that are chosen

  -- the mark of a constructor
  abbrev IsMark : ℕ → Bool → Type 0
  IsMark number true = (p : Point) × InRange p × IsChosen t cs number p
  IsMark number false = IsShadowed t cs number

  some_mark : (number : ℕ) → Surely ((mark : Bool) × IsMark number mark)
  some_mark number = surely_map (λ either. elim either [
    | inl chosen ↦ (true, chosen)
    | inr none ↦ (false, λ p range chosen. none (p, range, chosen))
  ]) (surely_either ((p : Point) × InRange p × IsChosen t cs number p))

  marks_tell : (marks : List Bool) → IsListOf IsMark (length t.constructors) marks → TellChosen t cs marks
  marks_tell marks is = record {
    counted = is.0;
    chosen = λ number on. is.1 number true on;
    all = λ number p range chosen.
        let own = chosen.is_of in
        let within = slice_get_within t.constructors number own.ctor own.ctor_is in
        on number p range chosen (member marks number (omega (arith, within, is.0)));
  }
    where
      on : (number : ℕ) (p : Point) → InRange p → IsChosen t cs number p → (mark : Bool) × (slice_get marks number ≡ Some mark) → slice_get marks number ≡ Some true
      on number p range chosen (true, at) = at
      on number p range chosen (false, at) = absurd (is.1 number false at p range chosen)

  shadowed_by : (marks : List Bool) → IsListOf IsMark (length t.constructors) marks → (ids : List ℕ) × AreShadowed t cs ids
  shadowed_by marks is =
      let all : length marks ≤ length marks = omega arith in
      let off = unmarked marks (length marks) all in
      (off.0, are_shadowed t cs marks off.0 (marks_tell marks is) (unmarked_all marks off.0 (length marks) all off.1))

  some_shadowed : Surely ((ids : List ℕ) × AreShadowed t cs ids)
  some_shadowed = surely_map (λ all. shadowed_by all.0 all.1) (surely_list IsMark some_mark (length t.constructors))

  -- ---- holes

  -- a hole of a constructor that is examined
  record SomeHole (number : ℕ) : Type 0 where
    table : ℕ
    place : ℕ
    examined : IsExamined t cs number table place
    parent : Point
    child : Point
    hole : IsHole t cs number table place parent child

  abbrev HasLeast : ℕ → Type 0
  HasLeast number = (hole : Option Hole) × TellsHoleOf t cs number hole

  least_of : (number : ℕ) → SomeHole number → Surely (HasLeast number)
  least_of number h =
      surely_then (some_least_point (HasHole t cs number h.table h.place) h.parent h.hole.parent_range (h.child, h.hole)) (λ p.
      let here = p.1.here in
      surely_map (λ q. told p.0 p.1 q.0 q.1)
      (some_least_point (IsHole t cs number h.table h.place p.0) here.0 here.1.child_range here.1))
    where
      told : (p : Point) → IsLeastWhere (HasHole t cs number h.table h.place) p → (q : Point) → IsLeastWhere (IsHole t cs number h.table h.place p) q → HasLeast number
      told p least q behind = (
        Some (record { ctor = number; operand = h.table; parent = p; child = q }),
        (refl, record { place = h.place; examined = h.examined; parent = least; child = behind }),
      )

  some_hole : (number : ℕ) → Surely (HasLeast number)
  some_hole number = surely_then (surely_either (SomeHole number)) (λ either. elim either [
    | inl hole ↦ least_of number hole
    | inr none ↦ surely (None, λ table place x p q h. none (record { table = table; place = place; examined = x; parent = p; child = q; hole = h }))
  ])

  some_truth : (P : Type 0) → Surely ((b : Bool) × (IsTrue b ↔ P))
  some_truth P = surely_map (λ either. elim either [
    | inl holds ↦ (true, (λ b. holds, λ p. refl))
    | inr fails ↦ (false, (λ b. absurd (false≢true b), λ p. absurd (fails p)))
  ]) (surely_either P)

  some_finding : (number : ℕ) (c : Ctor) → Surely ((f : Finding) × TellsFinding t cs number c f)
  some_finding number c =
      surely_then (some_hole number) (λ hole.
      surely_map (λ plain. (record { hole = hole.0; plain = plain.0 }, record { hole = hole.1; plain = plain.1 }))
      (some_truth (IsPlain t cs number c)))

  abbrev HasFound : ℕ → Type 0
  HasFound n = (holes : List Hole) × (plain : Bool) × FoundFirst t cs holes plain n

  some_found : (n : ℕ) → n ≤ length t.constructors → Surely (HasFound n)
  some_found zero within = surely ([], true, found_first t cs)
  some_found (suc n) within =
      let c = member t.constructors n (omega (arith, within)) in
      surely_then (some_found n (omega (arith, within))) (λ before.
      surely_map (λ f. more c before f) (some_finding n c.0))
    where
      more : (c : (c : Ctor) × (slice_get t.constructors n ≡ Some c)) (before : HasFound n) (f : (f : Finding) × TellsFinding t cs n c.0 f) → HasFound (suc n)
      more c before f = (
        with_hole before.0 f.0.hole,
        before.1 && f.0.plain,
        let e : n + 1 ≡ suc n = omega arith in
            subst (FoundFirst t cs (with_hole before.0 f.0.hole) (before.1 && f.0.plain)) e
            (found_more t cs before.0 before.1 n c.0 f.0 c.1 f.1 before.2 (with_hole before.0 f.0.hole) (before.1 && f.0.plain) refl refl),
      )

  some_holes : Surely ((holes : List Hole) × AreHoles t cs holes)
  some_holes = surely_map (λ f. (f.0, (found_all t cs f.0 f.1 (length t.constructors) (omega arith) f.2).0)) (some_found (length t.constructors) (omega arith))

  -- ---- the report

  pub a_report : Surely ((r : Report) × IsReport t cs r)
  a_report =
      surely_then some_gaps (λ gaps.
      surely_then some_shadowed (λ shadowed.
      surely_then some_holes (λ holes.
      surely_map (λ sure. (
        record { tables = gaps.0; shadowed = shadowed.0; holes = holes.0; sure = sure.0 },
        record { tables = gaps.1; shadowed = shadowed.1; holes = holes.1; sure = sure.1 },
      )) (some_truth (IsSure t cs)))))
