-- Marks of the constructors that are chosen at some point.
use Rattle.std.proofs.Common.{◌≡◌, ℕ, zero, suc, ◌+◌, ◌<◌, ◌≤◌, ◌⊎◌, inl, inr, List, length, get_or, replicate, Some, Bool, true, false, IsTrue, ◌↔◌, refl, sym, ap, subst, ◌∙◌, arith}
use Rattle.std.specs.Prelude.{All, slice_get}
use Rattle.std.proofs.lemmas.Bool.{cases_lt, false≢true}
use Rattle.std.proofs.lemmas.List.{length-replicate}
use Rattle.std.proofs.lemmas.Option.{get_or_from_slice_get, same_Some, slice_get_read, slice_get_within}
use Rattle.sl_ast.specs.Trees.{Constructor}
use Rattle.sl_ast.specs.Unfolding.{Placed}
use Rattle.sl_conflict.specs.Kept.{HasChoices, IsPaired}
use Rattle.sl_conflict.specs.TableTests.{AreSetsOf}
use Rattle.sl_conflict.specs.declared.table_sets.TableSets.{TableSets}
use Rattle.sl_cube.specs.Points.{InRange}
use Rattle.sl_cube.specs.declared.Point.{Point}
use Rattle.sl_cube_sets.specs.Sets.{IsChoice}
use Rattle.sl_cube_sets.specs.Unions.{has_set}
use Rattle.sl_gap_tables.proofs.SetLemmas.{chosen_down, choice_up, some_at}
use Rattle.sl_gap_tables.specs.Tables.{AreSettled, IsChosenAt, IsChosenIn, IsMarkedIf, MarksTable, TellChosen}
use Rattle.sl_spec.specs.declared.tables.Tables.{Tables}
use Rattle.sl_spec_constructors.specs.Listed.{AreListed}

-- ---- one table

-- Those of the first n constructors of the table have got their marks whose sets have one.
pub record MarkedFirst (ctors : List ℕ) (chosen : List Bool) (old new : List Bool) (n : ℕ) : Type 0 where
  pub counted : length new ≡ length old
  pub stays : (i : ℕ) → slice_get old i ≡ Some true → slice_get new i ≡ Some true
  pub only : (i : ℕ) → slice_get new i ≡ Some true
      → (slice_get old i ≡ Some true) ⊎ ((place : ℕ) × (slice_get ctors place ≡ Some i) × (slice_get chosen place ≡ Some true))
  pub all : (place number : ℕ) → place < n → slice_get ctors place ≡ Some number → slice_get chosen place ≡ Some true → number < length old
      → slice_get new number ≡ Some true

pub marked_none : (ctors : List ℕ) (chosen old : List Bool) → MarkedFirst ctors chosen old old 0
marked_none ctors chosen old = record {
  counted = refl;
  stays = λ i e. e;
  only = λ i e. inl e;
  all = λ place number below. absurd (omega arith);
}

pub marked_more : (ctors : List ℕ) (chosen old between new : List Bool) (n ctor : ℕ) (one : Bool) → slice_get ctors n ≡ Some ctor
    → IsTrue one ↔ (slice_get chosen n ≡ Some true) → IsMarkedIf between ctor one new → MarkedFirst ctors chosen old between n
    → MarkedFirst ctors chosen old new (n + 1)
marked_more ctors chosen old between new n ctor one at tells m f = record {
  counted = m.counted ∙ f.counted;
  stays = λ i e. m.stays i (f.stays i e);
  only = λ i e. elim (m.only i e) [
    | inl before ↦ f.only i before
    | inr now ↦ inr (n, at ∙ ap Some now.0, tells.0 now.1)
  ];
  all = λ place number below is has within. elim (cases_lt place n) [
    | inl before ↦ m.stays number (f.all place number before is has within)
    | inr after ↦
        let same : place ≡ n = omega (arith, below, after) in
        let own : ctor ≡ number = same_Some ctor number (sym at ∙ ap (slice_get ctors) (sym same) ∙ is) in
        let on : one ≡ true = tells.1 (ap (slice_get chosen) (sym same) ∙ has) in
        subst (λ (x : ℕ). slice_get new x ≡ Some true) own (m.marked on (omega (arith, within, own, f.counted)))
  ];
}

pub marked_all : (k : TableSets) (chosen old new : List Bool) (n : ℕ) → length k.ctors.items ≤ n → IsPaired k
    → ((i : ℕ) → slice_get chosen i ≡ Some true → (p : Point) × InRange p × IsChoice has_set k.sets.items p i)
    → ((p : Point) → InRange p → (i : ℕ) → IsChoice has_set k.sets.items p i → slice_get chosen i ≡ Some true)
    → MarkedFirst k.ctors.items chosen old new n → MarksTable k old new
marked_all k chosen old new n past paired right whole f = record {
  stays = f.stays;
  only = λ i e. elim (f.only i e) [
    | inl before ↦ inl before
    | inr now ↦ let at = right now.0 now.2 in inr (at.0, at.1, record { place = now.0; ctor_is = now.1; choice = at.2 })
  ];
  all = λ i p range c within.
      let lt = slice_get_within k.ctors.items c.place i c.ctor_is in
      f.all c.place i (omega (arith, lt, past)) c.ctor_is (whole p range c.place c.choice) within;
}

-- ---- all tables

-- The constructors of the first n tables have got their marks.
pub record TablesFirst (kept : List TableSets) (marks : List Bool) (count n : ℕ) : Type 0 where
  pub counted : length marks ≡ count
  pub only : (i : ℕ) → slice_get marks i ≡ Some true → (p : Point) × InRange p × IsChosenIn kept i p
  pub all : (table : ℕ) (k : TableSets) → table < n → slice_get kept table ≡ Some k → (i : ℕ) (p : Point) → InRange p → IsChosenAt k i p → i < count
      → slice_get marks i ≡ Some true

none_marked : (n i : ℕ) → slice_get (replicate n false) i ≡ Some true → ⊥
none_marked zero i e = absurd (cc)
none_marked (suc n) zero e = false≢true (same_Some false true e)
none_marked (suc n) (suc i) e = none_marked n i e

pub tables_none : (kept : List TableSets) (marks : List Bool) (count : ℕ) → marks ≡ replicate count false → TablesFirst kept marks count 0
tables_none kept marks count is = record {
  counted = ap length is ∙ length-replicate count false;
  only = λ i e. absurd (none_marked count i (ap (λ (l : List Bool). slice_get l i) (sym is) ∙ e));
  all = λ table k below. absurd (omega arith);
}

pub tables_more : (kept : List TableSets) (old new : List Bool) (count n : ℕ) (k : TableSets) → n < length kept → k ≡ get_or kept n k → length new ≡ length old
    → MarksTable k old new → TablesFirst kept old count n → TablesFirst kept new count (n + 1)
tables_more kept old new count n k below is long m f =
    let at : slice_get kept n ≡ Some k = slice_get_read kept (length kept) n k refl below is in record {
      counted = long ∙ f.counted;
      only = λ i e. elim (m.only i e) [
        | inl before ↦ f.only i before
        | inr now ↦ (now.0, now.1, (n, k, at, now.2))
      ];
      all = λ table l lt l_is i p range c within. elim (cases_lt table n) [
        | inl before ↦ m.stays i (f.all table l before l_is i p range c within)
        | inr after ↦
            let same : table ≡ n = omega (arith, lt, after) in
            let own : l ≡ k = same_Some l k (sym l_is ∙ ap (slice_get kept) same ∙ at) in
            m.all i p range (subst (λ (x : TableSets). IsChosenAt x i p) own c) (omega (arith, within, f.counted))
      ];
    }

paired_at : (kept : List TableSets) → All IsPaired kept → (table : ℕ) (k : TableSets) → slice_get kept table ≡ Some k → IsPaired k
paired_at kept paired table k e = subst IsPaired (get_or_from_slice_get kept table k k e) (paired table k (slice_get_within kept table k e))

pub settled_at : (kept : List TableSets) → AreSettled kept → (n : ℕ) (k : TableSets) → n < length kept → k ≡ get_or kept n k → HasChoices k
settled_at kept settled n k below is = settled n k (slice_get_read kept (length kept) n k refl below is)

pub paired_read : (kept : List TableSets) → All IsPaired kept → (n : ℕ) (k : TableSets) → n < length kept → k ≡ get_or kept n k → IsPaired k
paired_read kept paired n k below is = subst IsPaired (sym is) (paired n k below)

pub tables_all : (kept : List TableSets) (marks : List Bool) (count n : ℕ) → length kept ≤ n → All IsPaired kept → TablesFirst kept marks count n
    → (t : Tables) (cs : List (Placed Constructor)) → AreListed t cs → AreSetsOf t cs kept → length t.constructors ≡ count → TellChosen t cs marks
tables_all kept marks count n past paired f t cs listed are long = record {
  counted = f.counted ∙ sym long;
  chosen = λ number e.
      let at = f.only number e in
      let c = at.2.3 in (
        at.0,
        at.1,
        record {
          table = at.2.0;
          is_of = are.own at.2.0 at.2.1 c.place number at.2.2 c.ctor_is;
          choice = choice_up t cs kept are at.2.0 at.2.1 at.2.2 (paired_at kept paired at.2.0 at.2.1 at.2.2) at.0 at.1 c.place number c.ctor_is c.choice;
        },
      );
  all = λ number p range c.
      let own = c.is_of in
      let below = listed.below number own.ctor own.ctor_is in
      let k = some_at kept c.table (omega (arith, below, own.of_table, are.counted)) in
      let within = slice_get_within t.constructors number own.ctor own.ctor_is in
      f.all c.table k.0 (omega (arith, below, own.of_table, are.counted, past)) k.1 number p range
      (chosen_down t cs kept are c.table k.0 k.1 (paired_at kept paired c.table k.0 k.1) p range number c.choice) (omega (arith, within, long));
}
