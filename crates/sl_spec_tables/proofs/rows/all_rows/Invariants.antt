use Rattle.std.proofs.Common.{◌≡◌, ℕ, take}
use Rattle.std.specs.List.{zip}
use Rattle.sl_ast.specs.Trees.{Head}
use Rattle.sl_spec.specs.Numbers.{AreToldOf}
use Rattle.sl_spec.specs.Unfolded.{all_placed}
use Rattle.sl_spec_tables.specs.BlockLengths.{AreToldRows}
use Rattle.sl_spec_tables.specs.Views.{rows_of}
use Rattle.sl_spec_tables.proofs.rows.all_rows.Given as goal

abbrev pub invariant-ctors : goal.invariant-ctors
invariant-ctors l =
    (rows_of l.all.items ≡ zip (take l.index l.ctors) (take l.index (all_placed l.constructors)))
    × ((head_at : ℕ → Head) → AreToldOf head_at l.constructors → AreToldRows head_at l.all.items)
