-- What a text is bound to: tables that keep rules 1 to 37, sections that keep rules 38 and 39, and their sizes.
use Rattle.std.proofs.Common.{◌≡◌, Bool, true, false, List, Option, None, Result, Ok, Err, sym, ap, subst, ◌∙◌}
use Rattle.std.proofs.lemmas.Bool.{false≢true}
use Rattle.sl_ast.specs.Trees.{Constructor}
use Rattle.sl_ast.specs.Unfolding.{Placed}
use Rattle.sl_bind.proofs.BoundLemmas.{is_whole, tables_listed}
use Rattle.sl_bind.proofs.GrowLemmas.{came_of}
use Rattle.sl_bind.proofs.WalkLemmas.{none_late}
use Rattle.sl_bind.specs.Binding.{EndsIn, Verdict, constructors_of, judged_tables, with_tables}
use Rattle.sl_bind.specs.Verdict.{Broken, taken, unless_late}
use Rattle.sl_faithful_accepted.specs.Laws.{BoundAreParts, BoundKeepLimits}
use Rattle.sl_section_all.proofs.HeavyLemmas.{none_heavy}
use Rattle.sl_section_all.specs.FlatSections.{flat_sections, sections_fault}
use Rattle.sl_section_all.specs.Scopes.{Scopes, scopes_of}
use Rattle.sl_section_sizes.specs.Laws.{ComesTo, SizingOutcome}
use Rattle.sl_section_sizes.specs.SectionSizes.{AreSizes}
use Rattle.sl_spec.specs.declared.tables.Tables.{Tables}
use Rattle.sl_faithful_limits.proofs.Orders.{tables_keep_limits}
use Rattle.sl_spec_tables.specs.declared.faults.LateFault.{LateFault}
use Rattle.sl_word.specs.declared.word.Size.{Size}

-- ---- what a verdict says

abbrev tables_or : Tables → Verdict → Tables
tables_or t (Ok bound) = bound.0
tables_or t (Err e) = t

abbrev sizes_or : List (List Size) → Verdict → List (List Size)
sizes_or sizes (Ok bound) = bound.1
sizes_or sizes (Err e) = sizes

abbrev is_bound : Verdict → Bool
is_bound (Ok bound) = true
is_bound (Err e) = false

sized_by : (s : Scopes) (cs : List (Placed Constructor)) (own t : Tables) (sizes : List (List Size)) (o : SizingOutcome)
    → ComesTo own (flat_sections own s cs) o
    → ◌≡◌ {A = Verdict} (Ok (t, sizes)) (with_tables own o) → (own ≡ t) × AreSizes own (flat_sections own s cs) sizes
sized_by s cs own t sizes (Ok all) comes is = (
  sym (ap (tables_or own) is),
  subst (λ (z : List (List Size)). AreSizes own (flat_sections own s cs) z)
      (sym (ap (sizes_or all) is)) comes,
)
sized_by s cs own t sizes (Err (item, fault)) comes is = absurd (false≢true (sym (ap is_bound is)))

-- tables that are judged, with sizes of all sections
ends_sized : (s : Scopes) (cs : List (Placed Constructor)) (r : Result Tables Broken) (t : Tables)
    (sizes : List (List Size)) → EndsIn s cs r (Ok (t, sizes))
    → (r ≡ Ok t) × AreSizes t (flat_sections t s cs) sizes
ends_sized s cs (Ok own) t sizes ends =
    let h = sized_by s cs own t sizes ends.0 ends.1 ends.2 in
    (ap Ok h.0, subst (λ (u : Tables). AreSizes u (flat_sections u s cs) sizes) h.0 h.1)
ends_sized s cs (Err (rule, item)) t sizes ends = absurd (false≢true (sym (ap is_bound ends)))

pub bound_are_parts : BoundAreParts
unfolding judged_tables
bound_are_parts items t sizes binds =
    let s = scopes_of items in
    let cs = constructors_of items in
    let fault_in : Tables → Option LateFault = λ t. sections_fault t s cs in
    let ends = ends_sized s cs (judged_tables items) t sizes binds in
    let c = came_of (taken items) (λ t. unless_late (fault_in t) t) t ends.0 in
    let n = none_late (fault_in c.0) c.0 t c.2 in
    record {
      stands = c.1 ∙ ap Ok n.1;
      kept = record { holds = subst (λ (u : Tables). fault_in u ≡ None) n.1 n.0; sized = ends.1 };
    }

-- ---- limits

pub bound_keep_limits : BoundKeepLimits
bound_keep_limits items t sizes binds =
    let parts = bound_are_parts items t sizes binds in
    tables_keep_limits t (constructors_of items) (scopes_of items).macros (tables_listed items t parts.stands)
    (is_whole items t parts.stands).none
    (none_heavy t (scopes_of items) (constructors_of items) parts.kept.holds)
