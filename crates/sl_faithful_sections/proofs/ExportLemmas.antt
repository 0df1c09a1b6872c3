-- In one table all constructors that aren't `unimpl` export, or none does, by rule 38.
use Rattle.std.proofs.Common.{◌≡◌, ℕ, ◌==◌, ◌&&◌, ◌||◌, Bool, true, false, List, [], ◌∷◌, ◌++◌, fold, slice_get, Some, None, refl, sym, ap, ◌∙◌, arith}
use Rattle.std.specs.Prelude.{not}
use Rattle.std.specs.List.{AllByRecursion, list_any}
use Rattle.std.proofs.lemmas.Bool.{false≢true}
use Rattle.std.proofs.lemmas.Bool.Decides.{nat_tests}
use Rattle.sl_ast.specs.Trees.{Constructor, Section, Statement, export, statements, unimplemented}
use Rattle.sl_ast.specs.Unfolding.{Placed}
use Rattle.sl_faithful_sections.proofs.QuietLemmas.{CallsKeep, IsMacro, calls_keep, first_behind, taken_silent, unplaced_silent}
use Rattle.sl_section_equations.specs.Uses.{exported_variable}
use Rattle.sl_section_exports.specs.Exports.{all_or_none, does_export, exporting, if_so, is_export, is_silent, keeps_38, rows, silent, unexported_place, uses_exports}
use Rattle.sl_section_exports.specs.Spreading.{is_one_of}
use Rattle.sl_faithful_keeping.specs.Keeping.{first_export}
use Rattle.sl_section_all.specs.FlatSections.{flat_section}
use Rattle.sl_meaning_instruction.specs.Instructions.{is_unimpl}
use Rattle.sl_spec_registers.proofs.BoolLemmas.{and_parts, or_false}
use Rattle.sl_section_resolve.specs.Macros.{Body}
use Rattle.sl_section_resolve.specs.Steps.{Calls, after, all_taken, calls_of, exported, opening, section_steps, taken, unplaced, with_built}
use Rattle.sl_section_terms.specs.declared.reach.Reach.{Reach}
use Rattle.sl_section_resolve.specs.declared.state.State.{State}
use Rattle.sl_spec_rules.specs.Gathered.{gathered}
use Rattle.sl_section_flat.specs.Sections as s
use Rattle.sl_section_flat.specs.Sections.{Step}
use Rattle.sl_faithful_sections.specs.SoundLaws.{HasExport}
use Rattle.sl_spec.specs.Tables.{Operand}
use Rattle.sl_spec.specs.declared.tables.Tables.{Tables}
use Rattle.sl_faithful_sections.proofs.Used.{any_at, any_gathered, found_none}
use Rattle.sl_spec_tables.specs.Rows as all

-- what exports nothing has no variable of an export
no_variable : (ss : List Step) → first_export ss ≡ None → exported_variable ss ≡ None
no_variable [] h = refl
no_variable (s.export what ∷ ss) h = absurd (let e : ⊥ = cc in e)
no_variable (_ ∷ ss) h = no_variable ss h

-- ---- a section exports where it is written so

module _ (t : Tables) where
  exported_first : (c : Calls) (st : State) (x : Statement) (rest : List Step) → is_export x ≡ true
      → HasExport (taken t c st x ++ rest)
  exported_first c st (export what) rest is = record { what = exported t st what; is = refl }
  exported_first c st _ rest is = absurd (false≢true is)

  body_exports : (c : Calls) → CallsKeep t c → (st : State) (xs : List Statement) → list_any is_export xs ≡ true
      → HasExport (all_taken t c st xs)
  body_exports c k st [] h = absurd (false≢true h)
  body_exports c k st (x ∷ xs) h = by (is_export x) refl h (λ later. body_exports c k (after t c st x) xs later)
    where
      by : (b : Bool) → is_export x ≡ b → (b || list_any is_export xs) ≡ true
          → (list_any is_export xs ≡ true → HasExport (all_taken t c (after t c st x) xs))
          → HasExport (taken t c st x ++ all_taken t c (after t c st x) xs)
      by true is h rest = exported_first c st x (all_taken t c (after t c st x) xs) is
      by false is h rest =
          let r = rest h in
          record {
            what = r.what;
            is = first_behind (taken t c st x) (all_taken t c (after t c st x) xs)
                (taken_silent t c k st x is) ∙ r.is;
          }

  body_is_silent : (c : Calls) → CallsKeep t c → (st : State) (xs : List Statement) → list_any is_export xs ≡ false
      → first_export (all_taken t c st xs) ≡ None
  body_is_silent c k st [] h = refl
  body_is_silent c k st (x ∷ xs) h =
      let p = or_false (is_export x) (list_any is_export xs) h in
      first_behind (taken t c st x) (all_taken t c (after t c st x) xs) (taken_silent t c k st x p.0)
      ∙ body_is_silent c k (after t c st x) xs p.1

  module _ (macros : List Body) (are : AllByRecursion (IsMacro t) macros) (reach : Reach) (os : List Operand) where
    section_first : (body : List Statement)
        → first_export (section_steps t macros reach os body)
        ≡ first_export (all_taken t (calls_of t macros reach.macros) (opening t reach os) body)
    section_first body =
        first_behind (unplaced (fold with_built [] body) 0 os)
        (all_taken t (calls_of t macros reach.macros) (opening t reach os) body)
        (unplaced_silent t (fold with_built [] body) 0 os)

    pub flat_exports : (section : Section) → does_export section ≡ true
        → HasExport (flat_section t macros reach os section).steps
    flat_exports (statements body) h =
        let e = body_exports (calls_of t macros reach.macros) (calls_keep t macros are reach.macros)
        (opening t reach os) body h in
        record { what = e.what; is = section_first body ∙ e.is }
    flat_exports unimplemented h = absurd (false≢true h)

    flat_is_silent : (section : Section) → does_export section ≡ false
        → exported_variable (flat_section t macros reach os section).steps ≡ None
    flat_is_silent (statements body) h =
        no_variable (section_steps t macros reach os body)
        (section_first body ∙ body_is_silent (calls_of t macros reach.macros) (calls_keep t macros are reach.macros)
        (opening t reach os) body h)
    flat_is_silent unimplemented h = refl

    -- a flat section that exports is written so
    pub written_exports : (section : Section) (x : ℕ)
        → exported_variable (flat_section t macros reach os section).steps ≡ Some x → does_export section ≡ true
    written_exports section x is = by (does_export section) refl
      where
        by : (b : Bool) → does_export section ≡ b → b ≡ true
        by true e = refl
        by false e = absurd (let none : None ≡ Some x = sym (flat_is_silent section e) ∙ is in let no : ⊥ = cc in no)

-- ---- all constructors of a table

-- the table of a constructor is among those of the constructors that pass a test
pub one_passes : (test : all.Row → Bool) (rs : List all.Row) (k : ℕ) (r : all.Row) (table : ℕ)
    → slice_get rs k ≡ Some r → test r ≡ true → r.0.table ≡ table
    → is_one_of (gathered (λ (r : all.Row). if_so (test r) r.0.table) rs) table ≡ true
one_passes test rs k r table at passes own =
    any_gathered (λ n. n == table) (λ (r : all.Row). if_so (test r) r.0.table) rs
    (any_at (λ (r : all.Row). list_any (λ n. n == table) (if_so (test r) r.0.table)) rs k r at
    (ap (λ b. list_any (λ n. n == table) (if_so b r.0.table)) passes ∙ ap (λ n. (n == table) || false) own
    ∙ itself table))
  where
    itself : (n : ℕ) → ((n == n) || false) ≡ true
    itself n = grind (arith, nat_tests)

-- what isn't `unimpl` and isn't silent exports
exports_by : (section : Section) → is_unimpl section ≡ false → is_silent section ≡ false → does_export section ≡ true
exports_by (statements body) own loud = by (list_any is_export body) loud
  where
    by : (b : Bool) → not b ≡ false → b ≡ true
    by true h = refl
    by false h = absurd (false≢true (sym h))
exports_by unimplemented own loud = absurd (false≢true (sym own))

not_both : (a b : Bool) → not (a && b) ≡ true → a ≡ true → b ≡ false
not_both true true h is = absurd (false≢true h)
not_both true false h is = refl
not_both false b h is = absurd (false≢true is)

fails_so : (b : Bool) → not b ≡ false → b ≡ true
fails_so true h = refl
fails_so false h = absurd (false≢true (sym h))

module _ (t : Tables) (cs : List (Placed Constructor)) (sections : List (List Step))
    (holds : unexported_place t cs sections ≡ None) where
  -- where a constructor of a table exports, the others do too, but for `unimpl`
  pub all_export : (k j : ℕ) (r q : all.Row) (ss : List Step) → slice_get (rows t cs sections) k ≡ Some (r, ss)
      → slice_get (all.rows t cs) k ≡ Some r
      → slice_get (all.rows t cs) j ≡ Some q → does_export q.1.1.section ≡ true → q.0.table ≡ r.0.table
      → is_unimpl r.1.1.section ≡ false
      → does_export r.1.1.section ≡ true
  unfolding unexported_place
  all_export k j r q ss at here there exports own written =
      let rs = all.rows t cs in
      let keeps : keeps_38 rs (r, ss) ≡ true = fails_so (keeps_38 rs (r, ss))
      (found_none (λ r. not (keeps_38 rs r)) (rows t cs sections) k (r, ss) holds at) in
      let p = and_parts (all_or_none rs r.0.table) (uses_exports rs (r, ss)) keeps in
      let exporting_it : is_one_of (exporting rs) r.0.table ≡ true = one_passes
      (λ r. does_export r.1.1.section) rs j q r.0.table there exports own in
      let none : is_one_of (silent rs) r.0.table ≡ false = not_both (is_one_of (exporting rs) r.0.table)
      (is_one_of (silent rs) r.0.table) p.0 exporting_it in
      exports_by r.1.1.section written (by (is_silent r.1.1.section) refl none)
    where
      by : (b : Bool) → is_silent r.1.1.section ≡ b → is_one_of (silent (all.rows t cs)) r.0.table ≡ false → b ≡ false
      by false is none = refl
      by true is none =
          absurd
          (false≢true (sym none ∙ one_passes (λ r. is_silent r.1.1.section) (all.rows t cs) k r r.0.table here is refl))
