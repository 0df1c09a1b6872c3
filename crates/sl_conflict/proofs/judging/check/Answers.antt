use Rattle.std.proofs.Common.{List, subst, sym}
use Rattle.std.proofs.lemmas.Result.{err_from_is_err_and}
use Rattle.sl_spec.specs.Tables.{Ctor}
use Rattle.sl_conflict.specs.Ambiguity.{AreSettled, Tells, has_in}
use Rattle.sl_conflict.specs.Kept.{AreTablesOf}
use Rattle.sl_conflict.specs.Rows.{rows}
use Rattle.sl_conflict.specs.declared.table_sets.TableSets.{TableSets}
use Rattle.sl_conflict.proofs.JudgeLemmas.{all_choices, all_paired}
use Rattle.sl_conflict.proofs.judging.check.Goals as goal

pub returns-in_err-judge_all-clause-ambiguous : goal.returns-in_err-judge_all-clause-ambiguous
returns-in_err-judge_all-clause-ambiguous c =
    let p = err_from_is_err_and c.from_residual-in_err-judge_all.result c.from_residual-in_err-judge_all.ensures.1 in
    let sets = c.args.sets.items in
    let error = c.in_err-judge_all.field-0.0 in
    let made = subst (λ (ts : List TableSets). AreTablesOf c.len.result (rows c.as_slice-ctors.result.now sets) ts) (sym c.as_slice.ensures.value) c.in_ok-tables.ensures in
    rw (p.1, p.2) (subst (λ n. Tells c.args.t.now.constructors n (rows c.args.t.now.constructors sets) error) c.len.ensures
    (subst (λ (cs : List Ctor). Tells cs c.len.result (rows cs sets) error) c.as_slice-ctors.ensures (c.in_err-judge_all.ensures.ambiguous c.len.result sets made)))

pub invariant_of-result : goal.invariant_of-result
invariant_of-result c =
    let sets = c.args.sets.items in
    let ctors = c.as_slice-ctors.result.now in
    let made = subst (λ (ts : List TableSets). AreTablesOf c.len.result (rows ctors sets) ts) (sym c.as_slice.ensures.value) c.in_ok-tables.ensures in
    record {
      paired = all_paired (rows ctors sets) c.in_ok-tables.tables.items c.len.result c.in_ok-tables.ensures;
      settled = λ k d below. ∣ all_choices ctors sets c.in_ok-tables.tables.items c.len.result c.in_ok-tables.ensures (c.in_ok-judge_all.ensures.settled c.len.result sets made) k d below ∣₁;
    }

pub returns-clause-settled : goal.returns-clause-settled
returns-clause-settled c =
    let sets = c.args.sets.items in
    let made = subst (λ (ts : List TableSets). AreTablesOf c.len.result (rows c.as_slice-ctors.result.now sets) ts) (sym c.as_slice.ensures.value) c.in_ok-tables.ensures in
    subst (λ n. AreSettled has_in (rows c.args.t.now.constructors sets) n) c.len.ensures
    (subst (λ (cs : List Ctor). AreSettled has_in (rows cs sets) c.len.result) c.as_slice-ctors.ensures (c.in_ok-judge_all.ensures.settled c.len.result sets made))
