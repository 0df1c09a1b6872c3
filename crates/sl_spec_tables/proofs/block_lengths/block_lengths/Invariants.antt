use Rattle.std.proofs.Common.{ℕ}
use Rattle.sl_ast.specs.Trees.{Head}
use Rattle.sl_spec.specs.Numbers.{AreMade, AreToldOf}
use Rattle.sl_spec_tables.specs.BlockLengths.{IsLengthOf}
use Rattle.sl_spec_tables.proofs.block_lengths.block_lengths.Given as goal

abbrev pub invariant-all : goal.invariant-all
invariant-all l = (head_at : ℕ → Head) → AreToldOf head_at l.constructors → AreMade (IsLengthOf l.t) head_at l.made
