use Rattle.std.proofs.Common.{ap, ◌∙◌, arith}
use Rattle.sl_spec.specs.Tables.{Ctor}
use Rattle.sl_spec_tables.proofs.BlockLemmas.{told_put}
use Rattle.sl_spec_tables.proofs.ViewLemmas.{put_to_group}
use Rattle.sl_spec_tables.proofs.rows.add_to_group.Goals as goal

pub returns-in_ok-push-clause-added : goal.returns-in_ok-push-clause-added
returns-in_ok-push-clause-added c =
    put_to_group c.args.groups.now.items c.number-table.result c.args.row.ctor.now.table c.index_mut.result.now c.push.new.self c.args.row
    (c.number-table.ensures ∙ ap (λ (x : Ctor). x.table) c.ctor.view_is)
    (omega (arith, c.if-table-len.true, c.len.ensures, c.args.groups.now.ok.0)) c.index_mut.ensures.value c.in_ok-push.ensures.items

pub returns-in_ok-push-clause-told : goal.returns-in_ok-push-clause-told
returns-in_ok-push-clause-told c = λ head_at told one.
    told_put head_at c.args.groups.now.items c.number-table.result c.index_mut.result.now c.push.new.self c.args.row
    (omega (arith, c.if-table-len.true, c.len.ensures, c.args.groups.now.ok.0)) c.index_mut.ensures.value c.in_ok-push.ensures.items told one.0
