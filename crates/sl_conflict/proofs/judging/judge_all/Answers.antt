use Rattle.std.proofs.Common.{length, refl, subst}
use Rattle.std.proofs.lemmas.Option.{slice_get_read}
use Rattle.std.proofs.lemmas.Result.{err_from_is_err_and}
use Rattle.sl_spec.specs.Tables.{Ctor}
use Rattle.sl_conflict.specs.Judged.{IsJudged, IsReportAt}
use Rattle.sl_conflict.proofs.JudgeLemmas.{all_judged, first_ambiguous, one_judged}
use Rattle.sl_conflict.proofs.judging.judge_all.Goals as goal

pub ctors-preserved : goal.ctors-preserved
ctors-preserved c = λ count sets are.
    let ctor = c.index-ctors-number.result in
    let at = slice_get_read c.args.ctors.now (length c.args.ctors.now) c.ctors.number ctor refl c.ctors-test.true c.index-ctors-number.is in
    one_judged c.args.ctors.now sets c.args.tables.now count c.ctors.number ctor are at
    (subst (λ (x : Ctor). IsJudged c.args.tables.now x.table c.ctors.number) c.ctor.view_is c.in_ok-judge_at.ensures.settled)
    (c.ctors.invariant count sets are)

pub returns-clause-settled : goal.returns-clause-settled
returns-clause-settled c = λ count sets are.
    all_judged c.args.ctors.now sets count c.ctors.number c.ctors-test.false (c.ctors.invariant count sets are)

pub returns-in_err-judge_at-clause-ambiguous : goal.returns-in_err-judge_at-clause-ambiguous
returns-in_err-judge_at-clause-ambiguous c =
    let p = err_from_is_err_and c.from_residual.result c.from_residual.ensures.1 in
    let ctor = c.index-ctors-number.result in
    let at = slice_get_read c.args.ctors.now (length c.args.ctors.now) c.ctors.number ctor refl c.ctors-test.true c.index-ctors-number.is in
    let error = c.in_err-judge_at.field-0.0 in
    let report = subst (λ (x : Ctor). IsReportAt c.args.tables.now x.table c.ctors.number error) c.ctor.view_is c.in_err-judge_at.ensures.ambiguous in
    rw (p.1, p.2) (λ count sets are.
    first_ambiguous c.args.ctors.now sets c.args.tables.now count c.ctors.number ctor are at (c.ctors.invariant count sets are) error report)
