use Rattle.std.specs.Prelude.{codes, map}
use Rattle.sl_ast.specs.Views.{head_of}
use Rattle.sl_spec_actions.proofs.Folds.{IsFolded}
use Rattle.sl_spec_constructors.proofs.BlockLemmas.{inner_table}
use Rattle.sl_spec_constructors.proofs.whole_text.table_name.Given as goal

abbrev pub invariant-heads : goal.invariant-heads
invariant-heads l = IsFolded inner_table (codes "instruction") (map (λ a. head_of a.head.now) l.heads) l.table l.index
