-- step: the first tokens of what is inside blocks.
use Rattle.std.specs.Prelude.{ℕ, List}
use Rattle.sl_ast.specs.Views.{inner_indexes_step}
use Rattle.sl_ast.specs.declared.constructors.Inner.{Inner, fold-Inner}

-- the indexes of the first tokens of a constructor in a block, or of a block and what is inside it
abbrev pub indexes_in : Inner → List ℕ
indexes_in = fold-Inner (List ℕ) inner_indexes_step
