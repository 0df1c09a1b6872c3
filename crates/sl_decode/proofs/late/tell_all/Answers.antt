use Rattle.std.proofs.Common.{Vec, ap, refl, ◌∙◌}
use Rattle.std.specs.declared.alloc.Global.{Global}
use Rattle.sl_decode.specs.Finishing.{told_of}
use Rattle.sl_decode.proofs.RowLemmas.{row_done, row_fails}
use Rattle.sl_decode_meaning.specs.Actions.{own}
use Rattle.sl_decode_meaning.specs.Outcomes.{in_turn}
use Rattle.sl_decode_plan.specs.Steps.{late_step}
use Rattle.sl_decode_plan.specs.Values.{site_of}
use Rattle.sl_decode_plan.specs.declared.late.Late.{Late}
use Rattle.sl_decode.proofs.late.tell_all.Goals as goal

pub returns-in-Err : goal.returns-in-Err
returns-in-Err c =
    row_fails (late_step c.args.t.now (site_of c.args.scope.now)) c.rows-rows.result.now c.rows.index c.index-rows-index.result c.as_slice.result.now c.rows-test.true c.index-rows-index.is
    (c.as_slice.ensures.value ∙ ap (λ (v : Vec Late Global). v.items) c.deref.ensures) (own c.rows.left.now c.rows.values.items c.rows.commits.items) _
    (c.rows.invariant ∙ ap (λ ls. in_turn (late_step c.args.t.now (site_of c.args.scope.now)) ls (own c.args.notes.now c.args.values.now.items c.args.commits.now.items)) c.rows-rows.ensures) told_of (λ fault. refl) c.in-Err.error c.in-Err.ensures

pub rows-preserved : goal.rows-preserved
rows-preserved c =
    row_done (late_step c.args.t.now (site_of c.args.scope.now)) c.rows-rows.result.now c.rows.index c.index-rows-index.result c.as_slice.result.now c.rows-test.true c.index-rows-index.is
    (c.as_slice.ensures.value ∙ ap (λ (v : Vec Late Global). v.items) c.deref.ensures) (own c.rows.left.now c.rows.values.items c.rows.commits.items) _ c.rows.invariant
    (own c.in-Ok.next.now c.tell_row.new.values.items c.tell_row.new.commits.items) c.in-Ok.ensures
