use Rattle.std.proofs.Common.{◌≡◌, ℕ, take}
use Rattle.sl_ast.specs.Trees.{Head}
use Rattle.sl_spec_tables.specs.BlockLengths.{AreToldGroups, AreToldRows}
use Rattle.sl_spec_tables.specs.Rows.{groups}
use Rattle.sl_spec_tables.specs.Views.{groups_of, rows_of}
use Rattle.sl_spec_tables.proofs.rows.grouped.Given as goal

abbrev pub invariant-rows : goal.invariant-rows
invariant-rows l =
    (groups_of l.all.items ≡ groups l.count (take l.index (rows_of l.rows)))
    × ((head_at : ℕ → Head) → AreToldRows head_at l.rows → AreToldGroups head_at l.all.items)
