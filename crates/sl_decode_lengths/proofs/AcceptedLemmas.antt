-- The names of patterns and the lengths of instructions, where a text keeps the rules.
use Rattle.std.proofs.Common.{◌≡◌, ℕ, Bool, true, false, List, Option, Some, None, Result, Ok, Err, refl, sym, ap, subst, ◌∙◌}
use Rattle.std.specs.Prelude.{codes, position}
use Rattle.std.specs.List.{list_any}
use Rattle.std.proofs.lemmas.Bool.{false≢true}
use Rattle.sl_ast.specs.Trees.{Constructor, Item}
use Rattle.sl_ast.specs.Unfolding.{Placed, unfolded}
use Rattle.sl_bind.proofs.BoundLemmas.{is_whole, tables_listed}
use Rattle.sl_bind.proofs.GrowLemmas.{came_of}
use Rattle.sl_bind.proofs.SideLemmas.{pair_at}
use Rattle.sl_bind.proofs.TakenLemmas.{some_named}
use Rattle.sl_bind.proofs.WalkLemmas.{none_late}
use Rattle.sl_bind.specs.Binding.{EndsIn, Verdict, constructors_of, judged_tables, with_tables}
use Rattle.sl_bind.specs.Verdict.{Broken, taken, unless_late}
use Rattle.sl_section_all.specs.FlatSections.{sections_fault}
use Rattle.sl_section_all.specs.Scopes.{Scopes, scopes_of}
use Rattle.sl_decode_lengths.proofs.StandLemmas.{PatternStands, taken_stand}
use Rattle.sl_decode_lengths.specs.AcceptedLaws.{BoundAreTaken, BoundHaveBytes, TakenNamesAgree}
use Rattle.sl_decode_lengths.proofs.LengthLemmas.{instructions_have_bytes}
use Rattle.sl_decode_lengths.proofs.NameLemmas.{Stands, each_name, stands_agrees}
use Rattle.sl_decode_lengths.specs.Naming.{Agrees}
use Rattle.sl_section_sizes.specs.Laws.{SizingOutcome}
use Rattle.sl_spec.specs.Named.{is_named}
use Rattle.sl_spec.specs.Tables.{Field}
use Rattle.sl_spec.specs.declared.tables.Tables.{Tables}
use Rattle.sl_spec_tables.specs.declared.faults.LateFault.{LateFault}
use Rattle.sl_word.specs.declared.word.Size.{Size}

-- ---- names

-- what isn't there has no index
no_index : {X : Type 0} (p : X → Bool) (xs : List X) → list_any p xs ≡ false → position p xs ≡ None
no_index {X = X} p xs none = by (position p xs) refl
  where
    by : (o : Option ℕ) → position p xs ≡ o → o ≡ None
    by None is = refl
    by (Some i) is = absurd (false≢true (sym none ∙ some_named p xs i is))

pub taken_names_agree : TakenNamesAgree
taken_names_agree items t is i c placed at beside =
    let are = taken_stand items t is in
    each_name (Stands t.fields c.operands) (Agrees t c.operands)
    (stands_agrees t c.operands (no_index (is_named (λ (f : Field). f.name) (codes "epsilon")) t.fields are.apart))
    placed.1.pattern
    (pair_at (PatternStands t.fields) t.constructors (constructors_of items) i c placed at beside are.pairs)

-- ---- the tables that a text is bound to

abbrev tables_or : Tables → Verdict → Tables
tables_or t (Ok bound) = bound.0
tables_or t (Err e) = t

abbrev is_bound : Verdict → Bool
is_bound (Ok bound) = true
is_bound (Err e) = false

by_outcome : (t next : Tables) (sizes : List (List Size)) (o : SizingOutcome) → ◌≡◌ {A = Verdict} (Ok (next, sizes)) (with_tables t o) → next ≡ t
by_outcome t next sizes (Ok own) is = ap (tables_or t) is
by_outcome t next sizes (Err (item, fault)) is = absurd (false≢true (sym (ap is_bound is)))

ends_as : (s : Scopes) (cs : List (Placed Constructor)) (r : Result Tables Broken) (t : Tables) (sizes : List (List Size)) → EndsIn s cs r (Ok (t, sizes)) → r ≡ Ok t
ends_as s cs (Ok own) t sizes ends = ap Ok (sym (by_outcome own t sizes ends.0 ends.2))
ends_as s cs (Err (rule, item)) t sizes ends = absurd (false≢true (sym (ap is_bound ends)))

pub bound_are_taken : BoundAreTaken
unfolding judged_tables
bound_are_taken items t sizes binds =
    let fault_in : Tables → Option LateFault = λ t. sections_fault t (scopes_of items) (constructors_of items) in
    let c = came_of (taken items) (λ t. unless_late (fault_in t) t) t (ends_as (scopes_of items) (constructors_of items) (judged_tables items) t sizes binds) in
    let n = none_late (fault_in c.0) c.0 t c.2 in
    c.1 ∙ ap Ok n.1

-- ---- lengths

pub bound_have_bytes : BoundHaveBytes
bound_have_bytes items t sizes choose binds own bytes address context =
    let is = bound_are_taken items t sizes binds in
    instructions_have_bytes t (constructors_of items) choose (is_whole items t is).none (tables_listed items t is) (taken_names_agree items t is) own bytes address context
