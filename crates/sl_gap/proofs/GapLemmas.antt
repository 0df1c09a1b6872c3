-- What is found of all constructors, and the report.
use Rattle.std.proofs.Common.{◌≡◌, ◌↔◌, ℕ, zero, suc, ◌+◌, ◌<◌, ◌≤◌, ◌⊎◌, inl, inr, Bool, true, false, IsTrue, List, [], ◌∷◌, ◌++◌, length, map, Option, Some, None, Ok, refl, sym, ap, subst, ◌∙◌, arith}
use Rattle.std.specs.Prelude.{◌&&◌, All, Contains, option_map, slice_get}
use Rattle.std.proofs.lemmas.Bool.{cases_lt, false≢true}
use Rattle.std.proofs.lemmas.List.{length-map, map-append}
use Rattle.std.proofs.lemmas.List.Elements.{All-nil, All-push, Contains-append_left, Contains-push, Contains-push_cases}
use Rattle.std.proofs.lemmas.Nat.{pow_pos}
use Rattle.std.proofs.lemmas.Option.{same_Some, slice_get_within}
use Rattle.sl_ast.specs.Trees.{Constructor}
use Rattle.sl_ast.specs.Unfolding.{Placed}
use Rattle.sl_ast.specs.Trees.{Item}
use Rattle.sl_bind_compile.proofs.ResultLemmas.{ok_not_err}
use Rattle.sl_bind_compile.proofs.StandLemmas.{bound_taken, stands_taken}
use Rattle.sl_bind_compile.specs.Outcomes.{Compiles, all_constructors}
use Rattle.sl_conflict.specs.Kept.{IsPaired}
use Rattle.sl_conflict.specs.TableTests.{AreSetsOf}
use Rattle.sl_spec_constructors.specs.Listed.{AreListed}
use Rattle.sl_conflict.specs.declared.table_sets.TableSets.{TableSets}
use Rattle.sl_cube.specs.Points.{InRange}
use Rattle.sl_cube.specs.declared.Point.{Point}
use Rattle.sl_gap.proofs.ListLemmas.{rising_push, small_more}
use Rattle.sl_gap.specs.Findings.{AreFindings, AreKept, AreUnmarked, IsAt, LooksSure, TellsFinding, TellsHoleOf, with_hole}
use Rattle.sl_gap.specs.Holes.{IsHole, IsLeastHole}
use Rattle.sl_gap.specs.Reports.{AreHoles, AreShadowed, IsPlain, IsReport, IsRising, IsSure, Report}
use Rattle.sl_gap.specs.declared.findings.Finding.{Finding}
use Rattle.sl_gap.specs.declared.reports.Found.{Found}
use Rattle.sl_gap.specs.declared.report.Hole.{Hole}
use Rattle.sl_decode_meaning.specs.Meanings.{says}
use Rattle.sl_decode_plan.specs.Plans.{done, done_by}
use Rattle.sl_decode_plan.specs.declared.plans.Plan.{Plan}
use Rattle.sl_gap_operands.specs.Operands.{IsExamined}
use Rattle.sl_gap_tables.specs.Gaps.{IsGap, IsShadowed, TellGaps}
use Rattle.sl_gap_tables.specs.Tables.{TellChosen}
use Rattle.sl_spec.specs.Tables.{Ctor}
use Rattle.sl_spec.specs.Unfolded.{all_placed, placed}
use Rattle.sl_spec.specs.declared.tables.Tables.{Tables}
use Rattle.sl_spec.specs.declared.unfolded.Unfolded.{Unfolded}

abbrev ctors_of : List Hole → List ℕ
ctors_of hs = map (λ h. h.ctor) hs

module _ (t : Tables) (cs : List (Placed Constructor)) where
  -- ---- one constructor after the other

  -- The holes of the first n constructors, and whether each of them is plain.
  pub record FoundFirst (holes : List Hole) (plain : Bool) (n : ℕ) : Type 0 where
    pub rising : IsRising (ctors_of holes)
    pub small : All (λ m. m < n) (ctors_of holes)
    pub right : (h : Hole) → Contains holes h → IsLeastHole t cs h
    pub all : (number : ℕ) → number < n → (table place : ℕ) → IsExamined t cs number table place → (p q : Point) → IsHole t cs number table place p q
        → (h : Hole) × Contains holes h × (h.ctor ≡ number)
    pub plainly : IsTrue plain ↔ ((number : ℕ) (c : Ctor) → number < n → slice_get t.constructors number ≡ Some c → IsPlain t cs number c)

  pub found_first : FoundFirst [] true 0
  found_first = record {
    rising = tt;
    small = All-nil (λ m. m < 0);
    right = λ h c. absurd (omega (arith, c.1));
    all = λ number below. absurd (omega arith);
    plainly = (λ b number c below. absurd (omega arith), λ h. refl);
  }

  module _ (holes : List Hole) (plain : Bool) (n : ℕ) (c : Ctor) (f : Finding) (at : slice_get t.constructors n ≡ Some c) (told : TellsFinding t cs n c f)
      (first : FoundFirst holes plain n) where
    both_plain : (b : Bool) → b ≡ (plain && f.plain) → IsTrue b ↔ ((number : ℕ) (d : Ctor) → number < n + 1 → slice_get t.constructors number ≡ Some d → IsPlain t cs number d)
    both_plain b e = (
      λ is number d below d_is.
          let two = both plain f.plain (sym e ∙ is) in
          elim (cases_lt number n) [
            | inl before ↦ first.plainly.0 two.0 number d before d_is
            | inr after ↦
                let same : n ≡ number = omega (arith, below, after) in
                let own : c ≡ d = same_Some c d (sym at ∙ ap (slice_get t.constructors) same ∙ d_is) in
                subst (λ (k : ℕ). IsPlain t cs k d) same (subst (λ (x : Ctor). IsPlain t cs n x) own (told.plain.0 two.1))
          ],
      λ all. e ∙ joined plain f.plain (first.plainly.1 (λ number d before d_is. all number d (omega (arith, before)) d_is)) (told.plain.1 (all n c (omega arith) at)),
    )
      where
        both : (a b : Bool) → (a && b) ≡ true → (a ≡ true) × (b ≡ true)
        both true true e = (refl, refl)
        both true false e = absurd (false≢true e)
        both false b e = absurd (false≢true e)

        joined : (a b : Bool) → a ≡ true → b ≡ true → (a && b) ≡ true
        joined a b x y = ap (λ c. c && b) x ∙ y

    found_by : (hole : Option Hole) → TellsHoleOf t cs n hole → (b : Bool) → b ≡ (plain && f.plain) → FoundFirst (with_hole holes hole) b (n + 1)
    found_by None none b e = record {
      rising = first.rising;
      small = small_more (ctors_of holes) n first.small;
      right = first.right;
      all = λ number below table place x p q h. elim (cases_lt number n) [
        | inl before ↦ first.all number before table place x p q h
        | inr after ↦
            let same : number ≡ n = omega (arith, below, after) in
            absurd (none table place (subst (λ (k : ℕ). IsExamined t cs k table place) same x) p q (subst (λ (k : ℕ). IsHole t cs k table place p q) same h))
      ];
      plainly = both_plain b e;
    }
    found_by (Some h) some b e =
        let mapped : ctors_of (holes ++ h ∷ []) ≡ ctors_of holes ++ n ∷ [] = map-append (λ (x : Hole). x.ctor) holes (h ∷ []) ∙ ap (λ (k : ℕ). ctors_of holes ++ k ∷ []) some.0 in record {
          rising = subst IsRising (sym mapped) (rising_push (ctors_of holes) n first.rising first.small);
          small = subst (All (λ m. m < n + 1)) (sym mapped) (All-push (λ m. m < n + 1) (ctors_of holes) n (small_more (ctors_of holes) n first.small) (omega arith));
          right = λ g among. elim (Contains-push_cases holes h g among) [
            | inl old ↦ first.right g old
            | inr here ↦ subst (IsLeastHole t cs) here some.1
          ];
          all = λ number below table place x p q hole. elim (cases_lt number n) [
            | inl before ↦
                let old = first.all number before table place x p q hole in
                (old.0, Contains-append_left holes (h ∷ []) old.0 old.1, old.2)
            | inr after ↦ (h, Contains-push holes h, some.0 ∙ omega (arith, below, after))
          ];
          plainly = both_plain b e;
        }

    pub found_more : (new_holes : List Hole) (b : Bool) → new_holes ≡ with_hole holes f.hole → b ≡ (plain && f.plain) → FoundFirst new_holes b (n + 1)
    found_more new_holes b is e = subst (λ (l : List Hole). FoundFirst l b (n + 1)) (sym is) (found_by f.hole told.hole b e)

  pub found_all : (holes : List Hole) (plain : Bool) (n : ℕ) → length t.constructors ≤ n → FoundFirst holes plain n
      → AreHoles t cs holes × (IsTrue plain ↔ ((number : ℕ) (c : Ctor) → slice_get t.constructors number ≡ Some c → IsPlain t cs number c))
  found_all holes plain n past f = (
    record {
      rising = f.rising;
      right = f.right;
      all = λ number table place x p q h.
          let own = h.chosen.is_of in
          let within = slice_get_within t.constructors number own.ctor own.ctor_is in
          f.all number (omega (arith, within, past)) table place x p q h;
    },
    (
      λ b number c c_is. let within = slice_get_within t.constructors number c c_is in f.plainly.0 b number c (omega (arith, within, past)) c_is,
      λ all. f.plainly.1 (λ number c below c_is. all number c c_is),
    ),
  )

  -- ---- the report

  pub are_shadowed : (marks : List Bool) (ids : List ℕ) → TellChosen t cs marks → AreUnmarked marks ids → AreShadowed t cs ids
  are_shadowed marks ids told are = record {
    rising = are.rising;
    each = λ n. (
      λ among.
          let off = (are.each n).0 among in (
            omega (arith, slice_get_within marks n false off, told.counted),
            λ p range chosen. clash (slice_get marks n) (told.all n p range chosen) off,
          ),
      λ h. (are.each n).1 (off_of n (mark_at marks n (omega (arith, h.0, told.counted))) h.1),
    );
  }
    where
      clash : (o : Option Bool) → o ≡ Some true → o ≡ Some false → ⊥
      clash o e f = false≢true (same_Some false true (sym f ∙ e))

      mark_at : (xs : List Bool) (i : ℕ) → i < length xs → (x : Bool) × (slice_get xs i ≡ Some x)
      mark_at [] i below = absurd (omega (arith, below))
      mark_at (x ∷ xs) zero below = (x, refl)
      mark_at (x ∷ xs) (suc i) below = mark_at xs i (omega (arith, below))

      off_of : (n : ℕ) → (x : Bool) × (slice_get marks n ≡ Some x) → IsShadowed t cs n → slice_get marks n ≡ Some false
      off_of n (true, e) shadowed = let c = told.chosen n e in absurd (shadowed c.0 c.1 c.2)
      off_of n (false, e) shadowed = e

-- ---- constructors at their numbers

pub placed_at : (us : List Unfolded) (i : ℕ) (u : Unfolded) → slice_get us i ≡ Some u → slice_get (all_placed us) i ≡ Some (placed u)
placed_at [] i u e = absurd (cc)
placed_at (x ∷ us) zero u e = ap (λ y. Some (placed y)) (same_Some x u e)
placed_at (x ∷ us) (suc i) u e = placed_at us i u e

pub is_at : (t : Tables) (us : List Unfolded) (plans : List Plan) (i : ℕ) (c : Ctor) (u : Unfolded) (plan : Plan)
    → ((number : ℕ) → done_by t plans number ≡ says t (all_placed us) number) → slice_get t.constructors i ≡ Some c → slice_get us i ≡ Some u → slice_get plans i ≡ Some plan
    → IsAt t (all_placed us) i c (placed u) plan
is_at t us plans i c u plan same c_is u_is plan_is = record {
  ctor_is = c_is;
  written_is = placed_at us i u u_is;
  says_so = sym (same i) ∙ ap (option_map (done t)) plan_is;
}

pub found_out : (t : Tables) (cs : List (Placed Constructor)) (found : Found) (n : ℕ) → length t.constructors ≤ n → FoundFirst t cs found.holes.items found.plain n
    → AreFindings t cs found
found_out t cs found n past f = let all = found_all t cs found.holes.items found.plain n past f in record { holes = all.0; plain = all.1 }

-- ---- sure

listed_of : (items : List Item) (t : Tables) → Compiles items (Ok t) → AreListed t (all_constructors items)
listed_of items t (inl unbound) = absurd (ok_not_err t unbound.refusal unbound.is)
listed_of items t (inr judged) =
    subst (λ (u : Tables). AreListed u (all_constructors items)) (sym judged.judges.0) (stands_taken items judged.tables (bound_taken items judged.tables judged.binds)).listed

pub kept_of : (items : List Item) (t : Tables) (kept : List TableSets) → Compiles items (Ok t) → AreSetsOf t (all_constructors items) kept → All IsPaired kept
    → AreKept t (all_constructors items) kept
kept_of items t kept compiles sets paired = record { listed = listed_of items t compiles; sets = sets; paired = paired }

none_in : (hs : List Hole) → length hs ≡ 0 → (h : Hole) → Contains hs h → ⊥
none_in hs none h c = omega (arith, none, c.1)

empty_or : (hs : List Hole) → ((h : Hole) → Contains hs h → ⊥) → length hs ≡ 0
empty_or [] none = refl
empty_or (h ∷ hs) none = absurd (none h (0, omega arith, refl))

pub sure_is : (t : Tables) (cs : List (Placed Constructor)) (kept : List TableSets) (gaps : List (Option Point)) (f : Found) → AreKept t cs kept → TellGaps t cs gaps
    → AreFindings t cs f → LooksSure f gaps ↔ IsSure t cs
sure_is t cs kept gaps f are told found = (
  λ looks. record {
    plain = found.plain.0 looks.plain;
    whole = λ p range gap. told.each 0 None looks.whole p range gap;
    no_holes = λ number table place x p q h.
        let one = found.holes.all number table place x p q h in
        none_in f.holes.items looks.none one.0 one.1;
  },
  λ sure. record {
    plain = found.plain.1 sure.plain;
    none = empty_or f.holes.items (λ h among.
        let hole = found.holes.right h among in
        let child = hole.parent.here in
        sure.no_holes h.ctor h.operand hole.place hole.examined h.parent child.0 child.1);
    whole = whole_in (cases_lt 0 (length gaps)) sure.whole;
  },
)
  where
    gap_at : (xs : List (Option Point)) (i : ℕ) → i < length xs → (x : Option Point) × (slice_get xs i ≡ Some x)
    gap_at [] i below = absurd (omega (arith, below))
    gap_at (x ∷ xs) zero below = (x, refl)
    gap_at (x ∷ xs) (suc i) below = gap_at xs i (omega (arith, below))

    whole_of : (x : Option Point) × (slice_get gaps 0 ≡ Some x) → ((p : Point) → InRange p → IsGap t cs 0 p → ⊥) → slice_get gaps 0 ≡ Some None
    whole_of (None, e) none = e
    whole_of (Some p, e) none = let least = told.each 0 (Some p) e in absurd (none p least.in_range least.here)

    -- without a first table each point would be a gap of it
    whole_in : (0 < length gaps) ⊎ (length gaps ≤ 0) → ((p : Point) → InRange p → IsGap t cs 0 p → ⊥) → slice_get gaps 0 ≡ Some None
    whole_in (inl some) none = whole_of (gap_at gaps 0 some) none
    whole_in (inr empty) none = absurd (none (record { bytes = 0; context = 0 }) (pow_pos 128, pow_pos 64) (λ i has.
        let own = has.2.0 in
        let below = are.listed.below has.0 own.ctor own.ctor_is in
        absurd (omega (arith, below, own.of_table, empty, told.counted))))

pub past_all : (t : Tables) (us : List Unfolded) (n : ℕ) → length t.constructors ≡ length (all_placed us) → length us ≤ n → length t.constructors ≤ n
past_all t us n counted past = omega (arith, counted, length-map us placed, past)

pub report_is : (t : Tables) (cs : List (Placed Constructor)) (kept : List TableSets) (r : Report) (marks : List Bool) (f : Found) → AreKept t cs kept
    → TellGaps t cs r.tables → TellChosen t cs marks → AreUnmarked marks r.shadowed → AreFindings t cs f → r.holes ≡ f.holes.items
    → IsTrue r.sure ↔ LooksSure f r.tables → IsReport t cs r
report_is t cs kept r marks f are told chosen un found holes sure =
    let s = sure_is t cs kept r.tables f are told found in record {
      tables = told;
      shadowed = are_shadowed t cs marks r.shadowed chosen un;
      holes = subst (AreHoles t cs) (sym holes) found.holes;
      sure = (λ b. s.0 (sure.0 b), λ i. sure.1 (s.1 i));
    }
