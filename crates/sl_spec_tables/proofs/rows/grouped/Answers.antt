use Rattle.std.proofs.Common.{◌++◌, [], replicate, ap, ◌∙◌, arith}
use Rattle.std.proofs.lemmas.List.{length-map, take_all}
use Rattle.sl_spec.specs.Numbers.{AreTold}
use Rattle.sl_spec_tables.specs.Rows.{groups}
use Rattle.sl_spec_tables.specs.Views.{groups_of, row_of, rows_of}
use Rattle.sl_spec_tables.specs.declared.rows.Row.{Row}
use Rattle.sl_spec_tables.proofs.BlockLemmas.{all_at, told_empty}
use Rattle.sl_spec_tables.proofs.RowLemmas.{none_grouped}
use Rattle.sl_spec_tables.proofs.ViewLemmas.{grouped_more}
use Rattle.sl_spec_tables.proofs.rows.grouped.Goals as goal

pub rows-init : goal.rows-init
rows-init c =
    let empty = c.in_ok-add_empty.ensures ∙ ap (λ gs. groups_of gs ++ replicate c.args.count []) c.new-all.ensures.items in
    (empty ∙ none_grouped c.args.count, λ head_at told. told_empty head_at c.add_empty.new.all.items c.args.count empty)

pub rows-preserved : goal.rows-preserved
rows-preserved c =
    let r = c.index-rows-index.result in (
      grouped_more c.args.count c.args.rows.now _ _ c.rows.index r c.rows-test.true c.in_ok-add_to_group.ensures.added c.index-rows-index.is c.rows.invariant.0,
      λ head_at told.
          c.in_ok-add_to_group.ensures.told head_at (c.rows.invariant.1 head_at told)
          (all_at (λ (x : Row). AreTold head_at x.own.now.heads.items) c.args.rows.now c.rows.index r told c.rows-test.true c.index-rows-index.is, tt),
    )

pub returns-clause-all : goal.returns-clause-all
returns-clause-all c = c.rows.invariant.0 ∙ ap (groups c.args.count) (take_all c.rows.index (rows_of c.args.rows.now) (omega (arith, length-map c.args.rows.now row_of, c.rows-test.false)))

pub returns-clause-told : goal.returns-clause-told
returns-clause-told c = c.rows.invariant.1
