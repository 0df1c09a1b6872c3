-- The tables of a specification that keeps the rules are ones on which a verdict is.
use Rattle.std.proofs.Common.{◌≡◌, List, Option, Some, None, Result, Ok, Err, ap, subst, sym}
use Rattle.sl_ast.specs.Trees.{Constructor, Item}
use Rattle.sl_ast.specs.Unfolding.{Placed}
use Rattle.sl_bind.proofs.BoundLemmas as kept
use Rattle.sl_bind.specs.Binding as bind
use Rattle.sl_bind.specs.Binding.{EndsIn, constructors_of, fault_of, judged_tables, with_tables}
use Rattle.sl_bind.specs.Verdict.{Broken, item_at, taken, unless_late}
use Rattle.sl_bind.specs.declared.fault.BindFault.TheVariants as fault
use Rattle.sl_bind_compile.specs.Outcomes.{Binds, all_constructors}
use Rattle.sl_bind_compile.proofs.ResultLemmas.{ok_is, ok_not_err}
use Rattle.sl_section_all.specs.FlatSections.{sections_fault}
use Rattle.sl_section_all.specs.Scopes.{Scopes, scopes_of}
use Rattle.sl_spec_rules.specs.Demands.{◌>>=◌}
use Rattle.sl_section_sizes.specs.Laws.{SizingOutcome as Sized}
use Rattle.sl_shape.specs.Tables.{table_graph}
use Rattle.sl_shape.proofs.EdgeLemmas.{patterns_name_operands}
use Rattle.sl_conflict.specs.TableTests.{Stand}
use Rattle.sl_spec.specs.declared.tables.Tables.{Tables}
use Rattle.sl_spec_tables.specs.declared.faults.LateFault.{LateFault}
use Rattle.sl_word.specs.declared.word.Size.{Size}

pub stands_taken : (items : List Item) (t : Tables) → taken items ≡ Ok t → Stand t (all_constructors items)
stands_taken items t is =
    let cs = all_constructors items in
    let own = kept.tables_listed items t is in record {
      listed = own;
      acyclic = kept.no_table_reaches_itself items t is (table_graph t cs)
          (patterns_name_operands t cs own (kept.patterns_name_operands items t is));
    }

-- ---- tables that were bound

unlate : (o : Option LateFault) (u t : Tables) → unless_late o u ≡ Ok t → u ≡ t
unlate None u t is = ok_is u t is
unlate (Some late) u t is = absurd (ok_not_err t (late.rule, item_at late.place) (sym is))

judged_taken : (r : Result Tables Broken) (late : Tables → Option LateFault) (t : Tables) → (r >>= λ u. unless_late (late u) u) ≡ Ok t → r ≡ Ok t
judged_taken (Ok u) late t is = ap Ok (unlate (late u) u t is)
judged_taken (Err e) late t is = absurd (ok_not_err t e (sym is))

with_same : (t u : Tables) (sizes : List (List Size)) (o : Sized) → ◌≡◌ {A = bind.Verdict} (Ok (t, sizes)) (with_tables u o) → u ≡ t
with_same t u sizes (Ok found) is = sym (ap (λ (p : Tables × List (List Size)). p.0) (ok_is (t, sizes) (u, found) is))
with_same t u sizes (Err e) is = absurd (ok_not_err (t, sizes) (fault_of e.1, Some e.0) is)

ends_in : (s : Scopes) (cs : List (Placed Constructor)) (r : Result Tables Broken) (t : Tables) (sizes : List (List Size)) → EndsIn s cs r (Ok (t, sizes)) → r ≡ Ok t
ends_in s cs (Ok u) t sizes h = ap Ok (with_same t u sizes h.0 h.2)
ends_in s cs (Err e) t sizes h = absurd (ok_not_err (t, sizes) (fault.Rule e.0, e.1) h)

pub bound_taken : (items : List Item) (t : Tables) → Binds items (Ok t) → taken items ≡ Ok t
unfolding judged_tables
bound_taken items t binds =
    judged_taken (taken items) (λ u. sections_fault u (scopes_of items) (constructors_of items)) t
    (ends_in (scopes_of items) (constructors_of items) (judged_tables items) t binds.0 binds.1)

pub stands : (items : List Item) (t : Tables) → Binds items (Ok t) → Stand t (all_constructors items)
stands items t binds = stands_taken items t (bound_taken items t binds)

-- what is told of the constructors that the program keeps is told of those of the text
pub told_of : (t : Tables) (kept cs : List (Placed Constructor)) (P : List (Placed Constructor) → Type 0) → kept ≡ cs → Stand t cs → (Stand t kept → P kept) → P cs
told_of t kept cs P same stand told = subst P same (told (subst (λ (ds : List (Placed Constructor)). Stand t ds) (sym same) stand))
