-- The verdict on a text is one, surely is some, and is what was found.
use Rattle.std.proofs.Common.{◌≡◌, ℕ, ◌≤◌, List, Option, Some, None, Result, Ok, Err, length, refl, sym, ap, subst, ◌∙◌, arith}
use Rattle.sl_ast.specs.Trees.{Constructor, Item}
use Rattle.sl_ast.specs.Unfolding.{Placed}
use Rattle.sl_bind.proofs.BoundLemmas.{is_whole, no_table_reaches_itself, patterns_name_operands, tables_listed}
use Rattle.sl_bind.proofs.GrowLemmas.{came_of}
use Rattle.sl_bind.proofs.WalkLemmas.{none_late}
use Rattle.sl_bind.specs.Binding.{Binds, EndsIn, Verdict, constructors_of, fault_of, judged_tables, with_tables}
use Rattle.sl_bind.specs.Laws.{AreInOrder}
use Rattle.sl_bind.specs.Sections.{AreKept, AreParts, IsRefusal, StopsAt, TellsSizes, TellsStop}
use Rattle.sl_bind.specs.Steps.{FailsAt}
use Rattle.sl_bind.specs.Verdict.{Broken, item_at, taken, unless_late}
use Rattle.sl_bind.specs.declared.fault.BindFault.TheVariants as fault
use Rattle.sl_bind.specs.declared.fault.Refusal.{Refusal}
use Rattle.sl_bind.specs.declared.fault.Refusal.TheVariants as refusal
use Rattle.sl_bind.specs.declared.stop.Stop.{Stop}
use Rattle.sl_bind.specs.declared.stop.Stop.TheVariants as stop
use Rattle.sl_section_all.proofs.ReachingLemmas.{none_reaches}
use Rattle.sl_section_all.specs.FlatSections.{Flat, flat_sections, sections_fault}
use Rattle.sl_section_all.specs.Scopes.{Scopes, scopes_of}
use Rattle.sl_base_graphs.specs.Orders.{NoneReaches}
use Rattle.sl_spec_order.specs.Orders.{graph}
use Rattle.sl_spec_rules.specs.Demands.{◌>>=◌}
use Rattle.sl_section_sizes.proofs.OneLemmas.{one_outcome}
use Rattle.sl_section_sizes.proofs.SomeLemmas.{some_outcome_of_text}
use Rattle.sl_base_surely.specs.Surely.{Surely}
use Rattle.sl_base_surely.proofs.SurelyLemmas.{surely, surely_map}
use Rattle.sl_section_sizes.specs.SectionSizes.{AreSizes, IsSizesError}
use Rattle.sl_section_sizes.specs.declared.faults.SizesError.{SizesError}
use Rattle.sl_section_sizes.specs.declared.faults.SizesError.TheVariants as sizes
use Rattle.sl_spec.specs.declared.tables.Tables.{Tables}
use Rattle.sl_spec_tables.specs.TableRules.{late_fault}
use Rattle.sl_spec_tables.specs.declared.faults.LateFault.{LateFault}
use Rattle.sl_word.specs.declared.word.Size.{Size}

-- ---- the verdict is one, and surely some

one_end : (s : Scopes) (cs : List (Placed Constructor)) (r : Result Tables Broken) (v w : Verdict) → EndsIn s cs r v → EndsIn s cs r w → v ≡ w
one_end s cs (Err e) v w a b = a ∙ sym b
one_end s cs (Ok t) v w a b = a.2 ∙ ap (with_tables t) (one_outcome t (flat_sections t s cs) a.0 b.0 a.1 b.1) ∙ sym b.2

pub one_verdict : (items : List Item) (v w : Verdict) → Binds items v → Binds items w → v ≡ w
one_verdict items v w a b = one_end (scopes_of items) (constructors_of items) (judged_tables items) v w a b

some_end : (s : Scopes) (cs : List (Placed Constructor)) (r : Result Tables Broken) → ((t : Tables) → r ≡ Ok t → NoneReaches (graph (length t.tables) t.constructors))
    → Surely ((v : Verdict) × EndsIn s cs r v)
some_end s cs (Err e) none = surely (Err (fault.Rule e.0, e.1), refl)
some_end s cs (Ok t) none = surely_map (λ o. (with_tables t o.0, (o.0, o.1, refl))) (some_outcome_of_text t s cs (none t refl))

-- tables that rules 1 to 39 leave are taken
are_taken : (items : List Item) (t : Tables) → judged_tables items ≡ Ok t → taken items ≡ Ok t
unfolding judged_tables
are_taken items t is =
    let fault_in : Tables → Option LateFault = λ t. sections_fault t (scopes_of items) (constructors_of items) in
    let c = came_of (taken items) (λ t. unless_late (fault_in t) t) t is in
    let n = none_late (fault_in c.0) c.0 t c.2 in
    c.1 ∙ ap Ok n.1

-- no table reaches itself by the operands of constructors
pub none_by_operands : (items : List Item) (t : Tables) → taken items ≡ Ok t → NoneReaches (graph (length t.tables) t.constructors)
none_by_operands items t is =
    let counted = (tables_listed items t is).counted in
    none_reaches t (constructors_of items) (omega (arith, counted)) (is_whole items t is).none

pub some_verdict : (items : List Item) → Surely ((v : Verdict) × Binds items v)
some_verdict items =
    some_end (scopes_of items) (constructors_of items) (judged_tables items) (λ t is. none_by_operands items t (are_taken items t is))

pub are_in_order : (items : List Item) (t : Tables) → taken items ≡ Ok t → AreInOrder items t
are_in_order items t is = record {
  listed = tables_listed items t is;
  named = patterns_name_operands items t is;
  acyclic = no_table_reaches_itself items t is;
}

-- ---- what was found is the verdict

-- rules 38 and 39, behind the others
sections_judged : (items : List Item) (t : Tables) → taken items ≡ Ok t → judged_tables items ≡ unless_late (sections_fault t (scopes_of items) (constructors_of items)) t
unfolding judged_tables
sections_judged items t is = ap (λ (r : Result Tables Broken). r >>= λ t. unless_late (sections_fault t (scopes_of items) (constructors_of items)) t) is

tables_judged : (items : List Item) (broken : Broken) → taken items ≡ Err broken → judged_tables items ≡ Err broken
unfolding judged_tables
tables_judged items broken is = ap (λ (r : Result Tables Broken). r >>= λ t. unless_late (sections_fault t (scopes_of items) (constructors_of items)) t) is

pub kept_binds : (items : List Item) (t : Tables) (sizes : List (List Size)) → taken items ≡ Ok t → sections_fault t (scopes_of items) (constructors_of items) ≡ None
    → AreSizes t (flat_sections t (scopes_of items) (constructors_of items)) sizes → Binds items (Ok (t, sizes))
kept_binds items t sizes is none are =
    subst (λ (r : Result Tables Broken). EndsIn (scopes_of items) (constructors_of items) r (Ok (t, sizes)))
    (sym (sections_judged items t is ∙ ap (λ (o : Option LateFault). unless_late o t) none)) (Ok sizes, are, refl)

-- what the sections end in
pub sections_refuse : (items : List Item) (t : Tables) (r : Refusal) → taken items ≡ Ok t → StopsAt t (scopes_of items) (constructors_of items) r → IsRefusal items r
sections_refuse items t (refusal.At f item) is stops =
    subst (λ (r : Result Tables Broken). EndsIn (scopes_of items) (constructors_of items) r (Err (f, item))) (sym (sections_judged items t is)) stops
sections_refuse items t refusal.NoMemory is stops = tt

-- a rule that is broken before
pub tables_refuse : (items : List Item) (s : Stop) (r : Refusal) → FailsAt s (taken items) → TellsStop s r → IsRefusal items r
tables_refuse items (stop.Rule rule item) r fails tells =
    subst (IsRefusal items) (sym tells)
    (subst (λ (j : Result Tables Broken). EndsIn (scopes_of items) (constructors_of items) j (Err (fault.Rule rule, item))) (sym (tables_judged items (rule, item) fails)) refl)
tables_refuse items stop.NoMemory r fails tells = subst (IsRefusal items) (sym tells) tt

module _ (t : Tables) (s : Scopes) (cs : List (Placed Constructor)) where
  -- one of rules 38 and 39
  pub broken_stops : (late : LateFault) → sections_fault t s cs ≡ Some late → StopsAt t s cs (refusal.At (fault.Rule late.rule) (item_at late.place))
  broken_stops late is =
      subst (λ (o : Option LateFault). EndsIn s cs (unless_late o t) (Err (fault.Rule late.rule, item_at late.place))) (sym is) refl

  -- sizes, or rule 40
  pub sizes_stop : (flats : List Flat) (e : SizesError) (r : Refusal) → sections_fault t s cs ≡ None → flats ≡ flat_sections t s cs
      → IsSizesError t flats e → TellsSizes e r → StopsAt t s cs r
  sizes_stop flats (sizes.Fault item f) r none flat first tells =
      subst (StopsAt t s cs) (sym tells)
      (subst (λ (o : Option LateFault). EndsIn s cs (unless_late o t) (Err (fault_of f, Some item))) (sym none)
      (Err (item, f), subst (λ (fs : List Flat). IsSizesError t fs (sizes.Fault item f)) flat first, refl))
  sizes_stop flats sizes.NoMemory r none flat first tells = subst (StopsAt t s cs) (sym tells) tt

-- rules 32 to 37 hold, as the program asks for them
pub late_holds : (items : List Item) (t : Tables) (cs : List (Placed Constructor)) → cs ≡ constructors_of items → taken items ≡ Ok t → late_fault t cs ≡ None
late_holds items t cs are is = subst (λ (l : List (Placed Constructor)). late_fault t l ≡ None) (sym are) (is_whole items t is).none

-- what was kept, by the items
pub parts_kept : (items : List Item) (t : Tables) (s : Scopes) (cs : List (Placed Constructor)) (sizes : List (List Size)) → s ≡ scopes_of items → cs ≡ constructors_of items
    → taken items ≡ Ok t → AreKept t s cs sizes → AreParts items t sizes
parts_kept items t s cs sizes scopes are is kept = record {
  stands = is;
  kept = subst (λ (l : List (Placed Constructor)). AreKept t (scopes_of items) l sizes) are (subst (λ (z : Scopes). AreKept t z cs sizes) scopes kept);
}

-- and what the sections end in
pub parts_refuse : (items : List Item) (t : Tables) (s : Scopes) (cs : List (Placed Constructor)) (r : Refusal) → s ≡ scopes_of items → cs ≡ constructors_of items
    → taken items ≡ Ok t → StopsAt t s cs r → IsRefusal items r
parts_refuse items t s cs r scopes are is stops =
    sections_refuse items t r is
    (subst (λ (l : List (Placed Constructor)). StopsAt t (scopes_of items) l r) are (subst (λ (z : Scopes). StopsAt t z cs r) scopes stops))

-- the verdict, by what was kept
pub parts_bind : (items : List Item) (t : Tables) (sizes : List (List Size)) → AreParts items t sizes → Binds items (Ok (t, sizes))
parts_bind items t sizes parts = kept_binds items t sizes parts.stands parts.kept.holds parts.kept.sized
