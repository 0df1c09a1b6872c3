use Rattle.std.proofs.Common.{[], ◌∷◌, map, ap, ◌∙◌}
use Rattle.std.specs.Prelude.{codes}
use Rattle.sl_spec_rules.proofs.Seen.{below_map, seen_map}
use Rattle.sl_spec_rules.specs.Names.{Name}
use Rattle.sl_spec.specs.Unfolded.{placed}
use Rattle.sl_spec.specs.declared.unfolded.Unfolded.{Unfolded}
use Rattle.sl_spec_actions.proofs.Folds.{fold_goes}
use Rattle.sl_spec_constructors.specs.WholeText.{bare_table, table_name, with_table}
use Rattle.sl_spec_constructors.proofs.whole_text.all_tables.Goals as goal

abbrev seen : Unfolded → Name
seen u = table_name (placed u).1

pub constructors-preserved : goal.constructors-preserved
constructors-preserved c =
    let us = c.args.constructors.now in
    let below = c.constructors-test.true in
    fold_goes with_table (bare_table (codes "instruction") ∷ []) (map seen us) c.constructors.tables c.add_table-in-constructors.new.tables c.constructors.index _
    (below_map seen us c.constructors.index below) (seen_map seen us c.constructors.index c.index-constructors-index.result below c.index-constructors-index.is)
    (c.in_ok-add_table-2.ensures ∙ ap (with_table c.constructors.tables) c.table_name-name.ensures) c.constructors.invariant
