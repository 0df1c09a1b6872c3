-- What holds of the tables of a specification that is accepted.
use Rattle.std.proofs.Common.{◌≡◌, ℕ, ◌≤◌, inl, inr, List, Ok, sym, subst}
use Rattle.sl_ast.specs.Trees.{Item}
use Rattle.sl_bind.specs.Binding.{Binds}
use Rattle.sl_bind.specs.Verdict.{taken}
use Rattle.sl_bind_compile.proofs.ResultLemmas.{ok_not_err}
use Rattle.sl_bind_compile.proofs.StandLemmas.{bound_taken, stands_taken}
use Rattle.sl_bind_compile.specs.Outcomes.{Compiles, all_constructors}
use Rattle.sl_list_instructions.proofs.AlignmentLemmas.{some_alignment}
use Rattle.sl_conflict.specs.Soundness.{IsSound}
use Rattle.sl_conflict.specs.TableTests.{Stand}
use Rattle.sl_spec.specs.declared.tables.Tables.{Tables}
use Rattle.sl_word.specs.declared.word.Size.{Size}

pub record IsAccepted (items : List Item) (t : Tables) : Type 0 where
  pub sizes : List (List Size)
  pub binds : Binds items (Ok (t, sizes))
  pub keeps_rules : taken items ≡ Ok t
  pub stand : Stand t (all_constructors items)
  pub sound : IsSound t (all_constructors items)

pub accepted : (items : List Item) (t : Tables) → Compiles items (Ok t) → IsAccepted items t
accepted items t (inl unbound) = absurd (ok_not_err t unbound.refusal unbound.is)
accepted items t (inr judged) =
    let keeps = bound_taken items judged.tables judged.binds in
    let here : IsAccepted items judged.tables = record {
      sizes = judged.binds.0;
      binds = judged.binds.1;
      keeps_rules = keeps;
      stand = stands_taken items judged.tables keeps;
      sound = judged.judges.1;
    } in
    subst (λ (u : Tables). IsAccepted items u) (sym judged.judges.0) here

pub aligned : (items : List Item) (t : Tables) → Compiles items (Ok t) → 1 ≤ t.alignment
aligned items t compiles = some_alignment items t (accepted items t compiles).keeps_rules
