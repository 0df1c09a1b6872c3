use Rattle.std.proofs.Common.{◌≡◌, Some, length, refl, ap, ◌∙◌, sym}
use Rattle.std.specs.Prelude.{slice_get}
use Rattle.std.proofs.lemmas.Option.{slice_get_read}
use Rattle.sl_conflict.proofs.JudgeLemmas.{err_then, judged_here, report_here}
use Rattle.sl_conflict.proofs.TableLemmas.{ok_then}
use Rattle.sl_conflict.proofs.judging.judge_at.Goals as goal

pub returns-clause-settled : goal.returns-clause-settled
returns-clause-settled c =
    let look = c.in-Some.ensures.lookup in
    let kept = c.in-Some.kept.now in
    let at : slice_get c.args.tables.now c.args.table ≡ Some kept =
    ap (slice_get c.args.tables.now) (sym c.index.ensures) ∙ slice_get_read c.args.tables.now (length c.args.tables.now) c.index.result kept refl look.3.0 look.1 in
    ok_then c.judge.result c.judge.ensures.settled (judged_here c.args.tables.now c.args.table c.args.number kept at)

pub returns-clause-ambiguous : goal.returns-clause-ambiguous
returns-clause-ambiguous c =
    let look = c.in-Some.ensures.lookup in
    let kept = c.in-Some.kept.now in
    let at : slice_get c.args.tables.now c.args.table ≡ Some kept =
    ap (slice_get c.args.tables.now) (sym c.index.ensures) ∙ slice_get_read c.args.tables.now (length c.args.tables.now) c.index.result kept refl look.3.0 look.1 in
    err_then c.judge.result c.judge.ensures.ambiguous (report_here c.args.tables.now c.args.table c.args.number kept at (c.begins_with.ensures.0 c.if-not-begins_with.false))
