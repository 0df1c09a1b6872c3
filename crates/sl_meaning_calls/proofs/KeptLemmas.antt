-- The macros of a text that keeps the rules keep rule 28.
use Rattle.std.proofs.Common.{◌≡◌, ℕ, zero, suc, Bool, true, false, List, [], ◌∷◌, ◌++◌, Some, None, slice_get, cond, Option, refl, sym, subst}
use Rattle.std.specs.Prelude.{if◌then◌else◌}
use Rattle.std.specs.List.{AllByRecursion}
use Rattle.std.proofs.lemmas.List.Sums.{fold-append}
use Rattle.sl_ast.specs.Trees.{Item, constructor, block, define, attach_list, attach_one, macro}
use Rattle.sl_ast.specs.Unfolding.{Placed, unfolded}
use Rattle.sl_bind.proofs.GrowLemmas.{first_holds}
use Rattle.sl_bind.proofs.WalkLemmas.{EachKeeps, is_plain, rules_of_macro, taken_keeps, whole_text}
use Rattle.sl_meaning_calls.specs.Laws.{TakenKeepLabels}
use Rattle.sl_section_all.specs.Scopes.{Scopes, behind_item, behind_items, nothing_defined, scopes_of}
use Rattle.sl_section_forms.specs.Labels.{has_labels}
use Rattle.sl_section_resolve.specs.Macros.{Body}
use Rattle.sl_section_resolve.specs.Steps.{body_of, macro_name}
use Rattle.sl_spec_rules.specs.Demands.{Demand, first_broken}
use Rattle.sl_spec.specs.Named.{has_name}
use Rattle.sl_spec.specs.declared.tables.Tables.{Tables}

abbrev HasLabels : Body → Type 0
HasLabels m = has_labels (body_of m) ≡ true

abbrev AllKeep : List Body → Type 0
AllKeep = AllByRecursion HasLabels

at_number : (ms : List Body) (k : ℕ) (m : Body) → AllKeep ms → slice_get ms k ≡ Some m → HasLabels m
at_number [] k m all is = absurd (let no : ⊥ = cc in no)
at_number (x ∷ ms) zero m all is = let same : x ≡ m = cc in subst HasLabels same all.0
at_number (x ∷ ms) (suc k) m all is = at_number ms k m all.1 is

with_last : (ms : List Body) (m : Body) → AllKeep ms → HasLabels m → AllKeep (ms ++ m ∷ [])
with_last [] m all own = (own, tt)
with_last (x ∷ ms) m all own = (all.0, with_last ms m all.1 own)

with_new : (b : Bool) (ms : List Body) (m : Body) → AllKeep ms → HasLabels m → AllKeep (if b then ms else ms ++ m ∷ [])
with_new true ms m all own = all
with_new false ms m all own = with_last ms m all own

-- a demand of those that hold
passed : (b : Bool) (n : ℕ) (rest : Option ℕ) → cond b rest (Some n) ≡ None → rest ≡ None
passed true n rest is = is
passed false n rest is = absurd (cc)

demand_holds : (ds : List Demand) (k : ℕ) (d : Demand) → first_broken ds ≡ None → slice_get ds k ≡ Some d → d.1 ≡ true
demand_holds [] k d none is = absurd (let no : ⊥ = cc in no)
demand_holds (x ∷ ds) zero d none is =
    let same : x ≡ d = cc in subst (λ (d : Demand). d.1 ≡ true) same (first_holds x.1 x.0 (first_broken ds) none)
demand_holds (x ∷ ds) (suc k) d none is = demand_holds ds k d (passed x.1 x.0 (first_broken ds) none) is

module _ (items : List Item) where
  abbrev Holds : List (Placed Item) → Tables → Type 0
  Holds done t = AllKeep (behind_items nothing_defined done).macros

  one_more : (done : List (Placed Item)) (n : ℕ) (item : Item)
      → AllKeep (behind_item (behind_items nothing_defined done) item).macros
      → AllKeep (behind_items nothing_defined (done ++ (n, item) ∷ [])).macros
  one_more done n item all = subst (λ (z : Scopes). AllKeep z.macros)
      (sym (fold-append (λ z (x : Placed Item). behind_item z x.1) nothing_defined done ((n, item) ∷ []))) all

  plain_kept : (z : Scopes) (item : Item) → is_plain item ≡ true → AllKeep z.macros → AllKeep (behind_item z item).macros
  plain_kept z (define d) plain all = all
  plain_kept z (attach_list kind names members) plain all = all
  plain_kept z (attach_one kind names member) plain all = all
  plain_kept z (block h inside) plain all = all
  plain_kept z (macro m) plain all = absurd (let no : ⊥ = cc in no)
  plain_kept z (constructor c) plain all = absurd (let no : ⊥ = cc in no)

  each_keeps : EachKeeps (whole_text items) (unfolded items) Holds
  each_keeps = record {
    plain = λ done n item k next plain is all.
        one_more done n item (plain_kept (behind_items nothing_defined done) item plain all);
    macros = λ done n m ms t rules all.
        let z = behind_items nothing_defined done in
        let body : Body = record { of = m; reach = z.reach } in
        one_more done n (macro m)
        (with_new (has_name macro_name m.name z.macros) z.macros body all
        (demand_holds (rules_of_macro (whole_text items) t ms n m) 3 (28, has_labels m.body) rules refl));
    constructors = λ done rest n c ms t next parts is rules all. one_more done n (constructor c) all;
  }

pub taken_keep_labels : TakenKeepLabels
unfolding scopes_of
taken_keep_labels items t is = λ k m there.
    at_number (scopes_of items).macros k m (taken_keeps items t is (Holds items) (each_keeps items) tt) there
